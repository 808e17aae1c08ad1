-- `put_listed` meets its contract: a column that is listed is the next name.
use mathlib.Core.Bool.{true, false}
use mathlib.Core.List.{List, []}
use mathlib.Core.Path.{◌≡◌, refl, sym, ap, ap₂, ◌∙◌}
use Prim.Native.Nat.{ℕ}
use native.Mathlib.Omega.{arith}
use lib.ListN.{length, get_or}
use Rattle.rules.specs.Factor.{Column}
use Rattle.rules.specs.Lists.{passing_from}
use Rattle.rules.specs.Names.{with_commas}
use Rattle.decimal.proofs.Writing.{length_written}
use Rattle.decimal.specs.Writing.{written, place_after}
use Rattle.naming.proofs.Listing.{lists_start, lists_past, lists_next, lists_end}
use Rattle.naming.specs.Columns.{looked_in, look_names, side_of, listed_by}
use Rattle.naming.specs.Listing.{separated}
use Rattle.naming.proofs.compose.Looked.put_listed.Goals as goal
use Rattle.naming.proofs.compose.Looked.put_listed.Goals.{else-is_listed, then-is_listed}

pub loop-i-init : goal.loop-i-init
loop-i-init c =
    let a = c.args in
    let s = a.self.now in
    (refl, lists_start (look_names s.look s.text.now) (listed_by (λ j. get_or a.there.now j false) (side_of s.look.plots a.side) (looked_in s.look s.table.now)) c.columns-columns.result.count a.out.now a.at)

pub loop-i-preserved : goal.loop-i-preserved
loop-i-preserved c =
    let a = c.args in
    let s = a.self.now in
    let columns = c.columns-columns in
    let names = look_names s.look s.text.now in
    let t = listed_by (λ j. get_or a.there.now j false) (side_of s.look.plots a.side) (looked_in s.look s.table.now) in
    let out = c.loop-i.out in
    let end = c.loop-i.end in
    let i = c.loop-i.i in
    let name = separated c.loop-i.first (get_or names i []) in
    let told : c.is_listed.result ≡ t i =
    c.is_listed.ensures ∙ ap₂ (λ (n : ℕ) (S : List Column). listed_by (λ j. get_or a.there.now j false) (side_of n a.side) S i) columns.ensures.plots columns.ensures.columns in
    elim c.if-is_listed.branch [
      | then-is_listed w ↦ let e : t i ≡ true = sym told ∙ w.if-is_listed.true in
          let r = w.put_next-end.ensures in
          let o : c.if-is_listed.out ≡ written out end name = w.out-is ∙ r.1 in
          let p : c.if-is_listed.end ≡ place_after out end name = w.end-is ∙ r.0 in
          (ap length o ∙ length_written out end name ∙ c.loop-i.invariant.0, rw (o, p, w.first-is) (lists_next names t columns.result.count a.out.now a.at out end c.loop-i.first i c.loop-i.invariant.1 (omega arith) e))
      | else-is_listed w ↦ let e : t i ≡ false = sym told ∙ w.if-is_listed.false in
          (ap length w.out-is ∙ c.loop-i.invariant.0, rw (w.out-is, w.end-is, w.first-is) (lists_past names t columns.result.count a.out.now a.at out end c.loop-i.first i c.loop-i.invariant.1 (omega arith) e))
    ]

pub returns : goal.returns
returns c =
    let a = c.args in
    let s = a.self.now in
    let columns = c.columns-columns in
    let names = look_names s.look s.text.now in
    let t = listed_by (λ j. get_or a.there.now j false) (side_of s.look.plots a.side) (looked_in s.look s.table.now) in
    let r = lists_end names t columns.result.count a.out.now a.at c.loop-i.out c.loop-i.end c.loop-i.first c.loop-i.i c.loop-i.invariant.1 (omega arith) in
    (r.1 ∙ ap (λ (k : ℕ). place_after a.out.now a.at (with_commas names (passing_from t 0 k))) columns.ensures.count, r.0 ∙ ap (λ (k : ℕ). written a.out.now a.at (with_commas names (passing_from t 0 k))) columns.ensures.count)
