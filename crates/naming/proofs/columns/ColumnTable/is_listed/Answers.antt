-- `is_listed` meets its contract: no other column that is there hides column i.
use mathlib.Core.Bool.{Bool, false, not, ◌&&◌}
use mathlib.Core.Path.{◌≡◌, refl, sym, ap, ◌∙◌}
use Prim.Native.Nat.{ℕ}
use native.Mathlib.Omega.{arith}
use lib.Dec.{eqb}
use lib.ListN.{length, get_or}
use Rattle.std.proofs.Common.{rules, tests}
use Rattle.std.specs.List.{list_all, range_with_len}
use Rattle.std.proofs.lemmas.Iterator.{YieldsList-from_range}
use Rattle.std.proofs.lemmas.Iterator.Search.{all_from_yields_List}
use Rattle.rules.specs.Factor.{every}
use Rattle.rules.specs.Names.{hides}
use Rattle.rules.proofs.Bits.{every_ext}
use Rattle.rules.proofs.Buffer.{length_members}
use Rattle.naming.proofs.SideWalks.{allows, every_range, listed_not, listed_if, skips_itself}
use Rattle.naming.specs.Columns.{side_of}
use Rattle.naming.specs.Tables.{columns_in}
use Rattle.naming.proofs.columns.ColumnTable.is_listed.Goals as goal

pub returns-then-there-i : goal.returns-then-there-i
returns-then-there-i c =
    let t = c.args.self.now in
    let there : ℕ → Bool = λ j. get_or c.args.there.now j false in
    let s = side_of t.plots c.args.side in
    let S = columns_in t in
    let test : ℕ → Bool = λ j. not (there j && not (eqb j c.args.i) && hides s S j c.args.i) in
    let all : c.all.result ≡ list_all test (range_with_len 0 t.count) =
    all_from_yields_List test _ _ c.all.result c.all.ensures.ran (YieldsList-from_range 0 t.count t.count refl (omega arith)) (λ x b q k. search (rules, tests)) in
    let size : length S ≡ t.count = length_members t.plots t.placed.few_plots t.bytes.now t.count in
    all ∙ every_range test t.count ∙ ap (λ (k : ℕ). every k test) (sym size)
    ∙ every_ext test (allows there s S c.args.i) (length S) (λ j h. skips_itself t.plots c.args.side S c.args.i there j)
    ∙ sym (listed_if there s S c.args.i c.if-there-i.true)

pub returns-else-there-i : goal.returns-else-there-i
returns-else-there-i c =
    let t = c.args.self.now in
    c.if-there-i.false ∙ sym (listed_not (λ j. get_or c.args.there.now j false) (side_of t.plots c.args.side) (columns_in t) c.args.i c.if-there-i.false)
