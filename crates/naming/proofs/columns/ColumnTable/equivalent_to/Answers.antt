-- `equivalent_to` meets its contract: what the search finds first is the lowest equivalent column.
use mathlib.Core.Bool.{Bool}
use mathlib.Core.List.{[]}
use mathlib.Core.Path.{◌≡◌, refl, sym, ap}
use Prim.Native.Nat.{ℕ}
use lib.ListN.{length, get_or}
use Rattle.std.proofs.Common.{rules, tests, arith}
use Rattle.std.specs.List.{find, range_with_len}
use Rattle.std.specs.Option.{option_map}
use Rattle.std.proofs.lemmas.Iterator.{YieldsList-from_range}
use Rattle.std.proofs.lemmas.Iterator.Search.{find_from_yields_List}
use Rattle.rules.specs.Family.{alike}
use Rattle.rules.specs.Factor.{Column}
use Rattle.rules.proofs.Buffer.{length_members}
use Rattle.rules.proofs.WellFormed.{numbered_at}
use Rattle.naming.proofs.Tables.{found_in}
use Rattle.naming.specs.Tables.{columns_in}
use Rattle.naming.proofs.columns.ColumnTable.equivalent_to.Goals as goal

pub returns : goal.returns
returns c =
    let t = c.args.self.now in
    let S = columns_in t in
    let F = c.args.member.now in
    let test : ℕ → Bool = λ i. alike (get_or S i []) F in
    let e : option_map (λ (x : ℕ). x) c.find.result ≡ find test (range_with_len 0 t.count) =
    find_from_yields_List test _ _ c.find.result c.find.ensures.ran (YieldsList-from_range 0 t.count t.count refl (omega arith)) (λ x b q k. search (rules, tests)) in
    let size : length S ≡ t.count = length_members t.plots t.placed.few_plots t.bytes.now t.count in
    found_in F S test (λ j h. ap (λ (C : Column). alike C F) (sym (numbered_at S t.numbered j h))) c.find.result t.count e (sym size)
