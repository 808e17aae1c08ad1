use mathlib.Core.List.{List, ◌++◌}
use mathlib.Core.Path.{◌≡◌, refl, sym, ap, ap₂, ◌∙◌}
use Prim.Native.Nat.{ℕ, ◌+◌, ◌-◌, ◌*◌, ◌≤◌}
use native.Mathlib.Numerals.{add-one}
use native.Mathlib.Omega.{arith}
use lib.ListN.{length, take, drop, length-take, length-drop, set, length-set}
use borrow.Rule.Slice.PartMut.{mid_of, put_mid, same_len_mid}
use Rattle.rules.specs.Factor.{Column}
use Rattle.decimal.proofs.Writing.{length_written}
use Rattle.decimal.specs.Writing.{written, place_after}
use Rattle.factor.proofs.Lent.{length_part}
use Rattle.naming.proofs.Members.{names_turn, lengths_turn, slot_put, written_held, place_held}
use Rattle.naming.specs.Answers.{starting_with}
use Rattle.naming.specs.Members.{each_held, names_written, lengths_written, name_text, member_text, held}
use Rattle.naming.proofs.compose.Looked.put_names.Goals as goal

pub loop-i-init : goal.loop-i-init
unfolding names_written lengths_written
loop-i-init c = record { names_long = refl; lengths_long = refl; names = refl; lengths = refl }

pub put_name-requires : goal.put_name-requires
put_name-requires c =
    let s = c.args.self.now in
    ap length c.member-member.ensures ∙ length_part s.look.plots c.loop-i.i c.args.family.now (omega (arith, s.numbered.columns.few_plots, c.requires.few, c.requires.long))

pub loop-i-preserved : goal.loop-i-preserved
unfolding member_text
loop-i-preserved c =
    let a = c.args in
    let look = a.self.now.look in
    let text = a.self.now.text.now in
    let table = a.self.now.table.now in
    let whole = member_text look text table a.family.now in
    let f = held whole in
    let i = c.loop-i.i in
    let k = 160 * i + 160 - 160 * i in
    let mid = mid_of (160 * i) k c.loop-i.names in
    let w = c.put_name in
    let m = c.member-member in
    let same : name_text look text table (i + 1) m.result.now ≡ whole i = ap₂ (λ (p : ℕ) (F : Column). name_text look text table p F) (add-one i) m.ensures in
    let part : length mid ≡ 160 = simp (length-take, length-drop) (omega arith) in
    let short : length (f i) ≤ 160 = simp length-take (omega arith) in
    let back : w.new.out ≡ starting_with (f i) mid = w.ensures.1 ∙ ap (written mid 0) same ∙ written_held mid (whole i) ∙ ap (λ (m : ℕ). starting_with (take m (whole i)) mid) part in
    let long : w.result ≡ length (f i) = w.ensures.0 ∙ ap (place_after mid 0) same ∙ place_held mid (whole i) ∙ ap (λ (m : ℕ). length (take m (whole i))) part in
    let names-are : put_mid (160 * i) k c.loop-i.names w.new.out ≡ names_written f a.names.now (i + 1) =
    ap (put_mid (160 * i) k c.loop-i.names) back ∙ slot_put i k c.loop-i.names (f i) (omega arith) (omega arith) short
    ∙ ap (λ (x : List ℕ). take (160 * i) x ++ starting_with (f i) (drop (160 * i) x)) c.loop-i.invariant.names ∙ sym (names_turn f a.names.now a.lengths.now i) in
    let lengths-are : set c.loop-i.lengths i w.result ≡ lengths_written f a.lengths.now (i + 1) =
    ap₂ (λ (x : List ℕ) (m : ℕ). set x i m) c.loop-i.invariant.lengths long ∙ sym (lengths_turn f a.names.now a.lengths.now i) in record {
      names_long = same_len_mid (160 * i) k c.loop-i.names w.new.out (ap length w.ensures.1 ∙ length_written mid 0 (name_text look text table (i + 1) m.result.now)) ∙ c.loop-i.invariant.names_long;
      lengths_long = length-set c.loop-i.lengths i w.result ∙ c.loop-i.invariant.lengths_long;
      names = names-are;
      lengths = lengths-are;
    }

pub returns : goal.returns
returns c =
    let a = c.args in
    let f = each_held a.self.now.look a.self.now.text.now a.self.now.table.now a.family.now in
    let e : c.loop-i.i ≡ a.size = omega arith in
    record {
      names = c.loop-i.invariant.names ∙ ap (names_written f a.names.now) e;
      lengths = c.loop-i.invariant.lengths ∙ ap (lengths_written f a.lengths.now) e;
    }
