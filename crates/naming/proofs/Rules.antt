-- The rules of a name, one by one: what is written by the first that fits.
-- Assumes nothing.
use mathlib.Core.Path.{◌≡◌, refl, sym, ap, ap₂, ◌∙◌}
use mathlib.Core.Bool.{true, false}
use mathlib.Core.List.{List, [], ◌∷◌, ◌++◌}
use Prim.Native.Nat.{ℕ, suc, ◌*◌}
use native.Mathlib.Nat.{zero-add}
use lib.Dec.{eqb}
use lib.ListN.{drop}
use Rattle.rules.specs.Factor.{Column, classes}
use Rattle.rules.specs.Family.{alike, members_of}
use Rattle.rules.specs.Lists.{tabulate}
use Rattle.rules.specs.Names.{name_column, finer_side, coarser_side, equivalent_column, join_of, shown, with_commas, name_by_supremum, name_by_infimum, name_by_column, name_of, bytes_of}
use Rattle.rules.proofs.Numbering.{by_cases}
use Rattle.std.specs.Prelude.{Option, None, Some}
use Rattle.decimal.specs.Writing.{written, place_after}
use Rattle.naming.specs.Listing.{WroteIfAny}
use Rattle.naming.specs.declared.columns.Look.{Look}
use Rattle.naming.specs.declared.sides.Side.{Side}
use Rattle.naming.specs.declared.sides.Side.TheVariants.{Coarser, Finer}
use Rattle.naming.specs.Columns.{own_in, looked_in, own_names, look_names, alone, side_of}
use Rattle.naming.specs.Members.{side_text, list_text, supremum_text, infimum_text, place_text, extreme_name, or_else}

-- ---- a text, or the next

-- a text was written
pub wrote_else : (out : List ℕ) (o : Option (List ℕ)) (next after : List ℕ) (end : ℕ) → WroteIfAny out o after (Some end) → (end ≡ place_after out 0 (or_else o next)) × (after ≡ written out 0 (or_else o next))
wrote_else out None next after end w = let e = w.0 in absurd cc
wrote_else out (Some text) next after end w = let e = w.0 in (cc, w.1)

-- none was
pub none_else : (out : List ℕ) (o : Option (List ℕ)) (next after : List ℕ) → WroteIfAny out o after None → (after ≡ out) × (next ≡ or_else o next)
none_else out None next after w = (w.1, refl)
none_else out (Some text) next after w = let e = w.0 in absurd cc

-- ---- U and E, then a column

module _ (n : ℕ) (F : Column) where
  pub extreme_one : eqb (classes F) 1 ≡ true → extreme_name n F ≡ Some (85 ∷ [])
  unfolding extreme_name bytes_of
  extreme_one e = rw (e, extreme_name)

  pub extreme_all : eqb (classes F) 1 ≡ false → eqb (classes F) n ≡ true → extreme_name n F ≡ Some (69 ∷ [])
  unfolding extreme_name bytes_of
  extreme_all d e = rw (d, e, extreme_name)

  pub extreme_no : eqb (classes F) 1 ≡ false → eqb (classes F) n ≡ false → extreme_name n F ≡ None
  unfolding extreme_name
  extreme_no d e = rw (d, e, extreme_name)

module _ (names looked : List (List ℕ)) (n : ℕ) (Cs Ls : List Column) (place : ℕ) (F : Column) where
  pub extreme_else : bytes_of names looked (name_of n Cs Ls place F) ≡ or_else (extreme_name n F) (bytes_of names looked (name_by_column n Cs Ls place F (equivalent_column F 0 Cs)))
  unfolding name_of bytes_of extreme_name
  extreme_else =
      by_cases (eqb (classes F) 1)
      (λ e. rw (e, name_of, extreme_name))
      (λ d. by_cases (eqb (classes F) n)
      (λ e. rw (d, e, name_of, extreme_name))
      (λ e. rw (d, e, name_of, extreme_name)))

  pub column_none : name_by_column n Cs Ls place F 0 ≡ name_by_infimum n Cs Ls place F
  unfolding name_by_column
  column_none = refl

  pub column_some : (c : ℕ) → name_by_column n Cs Ls place F (suc c) ≡ name_column c
  unfolding name_by_column
  column_some c = refl

-- ---- what the columns on a side make

module _ (look : Look) (side : Side) (text table : List ℕ) (F : Column) where
  pub side_fits : alike (join_of (side_of look.plots side) F (looked_in look table)) F ≡ true → side_text look side text table F ≡ Some (list_text look side text (shown (side_of look.plots side) F (looked_in look table)))
  unfolding side_text
  side_fits e = rw (e, side_text)

  pub side_fits_not : alike (join_of (side_of look.plots side) F (looked_in look table)) F ≡ false → side_text look side text table F ≡ None
  unfolding side_text
  side_fits_not e = rw (e, side_text)

-- ---- an infimum, then a supremum

module _ (look : Look) (text table : List ℕ) (place : ℕ) (F : Column) where
  pub supremum_else : supremum_text look text table place F ≡ or_else (side_text look Finer text table F) (place_text place)
  unfolding name_by_supremum bytes_of side_text
  supremum_else =
      by_cases (alike (join_of (finer_side look.plots) F (looked_in look table)) F)
      (λ e. rw (e, name_by_supremum, side_text))
      (λ e. rw (e, name_by_supremum, side_text))

  -- the columns of the kind by themselves
  pub alone_in : looked_in (alone look) (drop (240 * look.before) table) ≡ own_in look table
  alone_in = ap (members_of look.plots (drop (240 * look.before) table)) (zero-add look.count)

  alone_names : look_names (alone look) text ≡ own_names look text
  unfolding look_names tabulate
  alone_names = refl

  pub infimum_else : infimum_text look text table place F ≡ or_else (side_text (alone look) Coarser text (drop (240 * look.before) table) F) (supremum_text look text table place F)
  unfolding name_by_infimum bytes_of side_text
  infimum_else =
      let n = look.plots in
      let after = drop (240 * look.before) table in
      let same : alike (join_of (coarser_side n) F (looked_in (alone look) after)) F ≡ alike (join_of (coarser_side n) F (own_in look table)) F = ap (λ (Cs : List Column). alike (join_of (coarser_side n) F Cs) F) alone_in in
      by_cases (alike (join_of (coarser_side n) F (own_in look table)) F)
      (λ e. rw (e, same ∙ e, name_by_infimum, side_text) (ap₂ (λ (names : List (List ℕ)) (Cs : List Column). 73 ∷ 40 ∷ with_commas names (shown (coarser_side n) F Cs) ++ 41 ∷ []) (sym alone_names) (sym alone_in)))
      (λ e. rw (e, same ∙ e, name_by_infimum, side_text))
