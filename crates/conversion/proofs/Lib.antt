mod Slashes
mod FirstLine
mod Headings
mod TableLaws
mod PlainLaws
mod ConvertLaws
