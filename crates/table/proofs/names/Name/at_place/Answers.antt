-- `at_place`: the part lent is the member at the place.
use mathlib.Core.Path.{◌≡◌, ap, ◌∙◌}
use mathlib.Core.List.{List}
use Prim.Native.Nat.{ℕ, ◌≤◌}
use native.Mathlib.Omega.{arith}
use lib.ListN.{length, replicate}
use Rattle.std.specs.Prelude.{Ok}
use Rattle.std.proofs.Common.{rules}
use Rattle.rules.specs.Naming.{name_buffer}
use Rattle.naming.specs.Answers.{kind_of, look_of, naming_by, name_numbers_of, starting_with}
use Rattle.table.specs.Names.{placed_name}
use Rattle.table.proofs.NameTable.{name_placed, is_named, starting_room, starting_take}
use Rattle.table.proofs.names.Name.at_place.Goals as goal
use Rattle.table.proofs.names.Name.at_place.Goals.{After-name_counted}

-- the name
abbrev text : After-name_counted → List ℕ
text c = placed_name (kind_of c.args.kind) c.args.source.text.now c.args.source.counts.plots c.args.source.levels.now c.args.family.now c.args.place

same : (c : After-name_counted) → naming_by (look_of c.args.kind c.args.source.counts) c.args.source.text.now c.args.source.levels.now c.member-member.result.now c.args.place 160 ≡ record { refusal = 0; name = text c }
same c =
    let a = c.args in
    let s = a.source in
    let l : 1 ≤ a.place = omega arith in
    let room : 160 ≤ 160 = omega arith in
    ap (λ (F : List ℕ). naming_by (look_of a.kind s.counts) s.text.now s.levels.now F a.place 160) c.member-member.ensures
    ∙ name_placed a.kind s.counts s.text.now s.levels.now a.family.now a.place 160 c.requires.0 l c.requires.1 room

named : (c : After-name_counted) → c.name_counted.result ≡ Ok (length (text c))
unfolding name_numbers_of
named c = is_named _ _ (c.name_counted.ensures.answer ∙ ap name_numbers_of (same c))

pub returns-then-place-eq0 : goal.returns-then-place-eq0
unfolding placed_name
returns-then-place-eq0 c = rw c.if-place-eq0.true

pub unwrap-size-requires : goal.unwrap-size-requires
unwrap-size-requires c = rw (named (goal.at.unwrap-size-requires c).After-name_counted) (search rules)

-- the bytes written
bytes : (c : After-name_counted) → c.name_counted.new.name ≡ starting_with (text c) (replicate 160 0)
bytes c = c.name_counted.ensures.buffer ∙ ap (name_buffer (replicate 160 0)) (same c)

pub invariant_of-result-2 : goal.invariant_of-result-2
invariant_of-result-2 c =
    let n = (goal.at.invariant_of-result-2 c).After-name_counted in
    let e : c.unwrap-size.result ≡ length (text n) = cc (named n, c.unwrap-size.ensures) in
    record { inside = starting_room c.unwrap-size.result (text n) (replicate 160 0) c.name_counted.new.name e (bytes n) }

pub returns : goal.returns
returns c =
    let n = (goal.at.returns c).After-name_counted in
    let e : c.unwrap-size.result ≡ length (text n) = cc (named n, c.unwrap-size.ensures) in
    starting_take c.unwrap-size.result (text n) (replicate 160 0) c.name_counted.new.name e (bytes n)
