-- `write_digits`: the digits are the end of an array of 20.
use mathlib.Core.Path.{◌≡◌, ap, ◌∙◌}
use Prim.Native.Nat.{◌-◌, ◌≤◌}
use native.Mathlib.Omega.{arith}
use lib.ListN.{length, take, drop, length-drop}
use lib.Seq.{take_all}
use borrow.Author.Rules.{rules}
use Rattle.rules.specs.Lists.{decimal_of}
use Rattle.decimal.specs.Writing.{written, place_after}
use Rattle.decimal.proofs.write_digits.Goals as goal

pub slice_bounds-write_bytes-count : goal.slice_bounds-write_bytes-count
slice_bounds-write_bytes-count c = c.put_digits-first.ensures.place

pub returns : goal.returns
returns c =
    let w = c in
    let p = w.put_digits-first in
    let ds = p.new.digits in
    let a = w.args in
    let l : length ds ≡ 20 = search rules in
    let h : length (drop p.result ds) ≤ 20 - p.result = rw length-drop (omega arith) in
    let e : take (20 - p.result) (drop p.result ds) ≡ decimal_of a.n = take_all (20 - p.result) (drop p.result ds) h ∙ p.ensures.digits in
    record {
      answer = w.write_bytes.ensures.answer ∙ ap (place_after a.out.now a.at) e;
      bytes = w.write_bytes.ensures.bytes ∙ ap (written a.out.now a.at) e;
    }
