-- `number_looked` meets its contract: the plot columns before, then those of the kind.
use mathlib.Core.List.{List, ◌++◌}
use mathlib.Core.Path.{◌≡◌, sym, ap, ap₂, ◌∙◌}
use Prim.Native.Nat.{ℕ, ◌*◌, ◌≤◌}
use native.Mathlib.Omega.{arith}
use lib.ListN.{length, take, drop}
use lib.Seq.{drop_at, length-take-le}
use borrow.Author.Rules.{rules}
use Rattle.rules.specs.Factor.{Column}
use Rattle.rules.specs.Family.{members_of}
use Rattle.naming.proofs.Tables.{members_split, members_front, rest_put}
use Rattle.naming.specs.Columns.{own_in, looked_in}
use Rattle.naming.proofs.columns.number_looked.Goals as goal

pub returns : goal.returns
returns c =
    let look = c.args.look in
    let n = look.plots in
    let b = look.before in
    let first = c.number_columns.new.out in
    let rest = c.number_columns-2.new.out in
    let same : length first ≡ length c.args.out.now = search rules in
    let long : 240 * b ≤ length first = omega (arith, c.requires.0.few_before, c.requires.1) in
    let is = rest_put (240 * b) first rest long in
    let own : members_of n (drop (240 * b) (take (240 * b) first ++ rest)) look.count ≡ members_of n rest look.count =
    ap (λ (l : List ℕ). members_of n l look.count) (drop_at (take (240 * b) first) rest (240 * b) (length-take-le (240 * b) first long)) in record {
      own = ap (own_in look) is ∙ own ∙ c.number_columns-2.ensures;
      all = ap (looked_in look) is ∙ members_split n (take (240 * b) first ++ rest) b look.count
          ∙ ap₂ (λ (l m : List Column). l ++ m) (members_front n c.requires.0.few_plots b first rest long ∙ c.number_columns.ensures) (sym (ap (own_in look) is));
    }
