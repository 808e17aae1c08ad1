-- `of_family`: the members fit, and the names written are those of the family.
use Rattle.std.proofs.Common.{rules}
use mathlib.Core.Path.{◌≡◌, refl, ◌∙◌}
use mathlib.Core.Bool.{true}
use Prim.Native.Nat.{ℕ, suc, ◌<◌}
use native.Mathlib.Omega.{arith}
use mathlib.Core.List.{List}
use lib.ListN.{length, replicate, length-replicate}
use Rattle.naming.specs.Answers.{kind_of}
use Rattle.naming.specs.Members.{names_written, lengths_written, family_held, family_fits}
use Rattle.table.specs.Names.{placed_name}
use Rattle.table.proofs.NameTable.{Filled, filled_written, filled_names, members_fit_lem, member_placed, held_short}
use Rattle.table.proofs.names.Names.of_family.Goals as goal
use Rattle.table.proofs.names.Names.of_family.Goals.{After-name_members}

-- the arrays before
abbrev no_names : List ℕ
no_names = replicate 5120 0

abbrev no_lengths : List ℕ
no_lengths = replicate 32 0

fits : (c : After-name_members) → family_fits c.args.kind c.args.source.counts c.args.size c.args.source.levels.now c.args.family.now no_names no_lengths ≡ true
fits c =
    let a = c.args in
    let few = c.requires.1 in
    let long : length no_names ≡ 5120 = length-replicate {A = ℕ} 5120 0 in
    let counted : length no_lengths ≡ 32 = length-replicate {A = ℕ} 32 0 in
    members_fit_lem a.kind a.source.counts a.source.text.now a.source.levels.now a.family.now a.size (length no_names) (length no_lengths) c.requires.0 few (omega arith) (omega arith)

pub unwrap-requires : goal.unwrap-requires
unwrap-requires c = let f = fits (goal.at.unwrap-requires c).After-name_members in rw (c.name_members.ensures.answer, f) (search rules)

-- what the arrays hold
held : (c : After-name_members) → Filled (λ j. placed_name (kind_of c.args.kind) c.args.source.text.now c.args.source.counts.plots c.args.source.levels.now c.args.family.now (suc j)) c.name_members.new.names c.name_members.new.lengths c.args.size
held c =
    let a = c.args in
    let s = a.source in
    let text = s.text.now in
    let levels = s.levels.now in
    let buffer = a.family.now in
    let few = c.requires.1 in
    let name = family_held a.kind s.counts text levels buffer in
    let long : length no_names ≡ 5120 = length-replicate {A = ℕ} 5120 0 in
    let counted : length no_lengths ≡ 32 = length-replicate {A = ℕ} 32 0 in
    let names = rw (fits c) at c.name_members.ensures.names in
    let lengths = rw (fits c) at c.name_members.ensures.lengths in
    let f = filled_written name no_names no_lengths a.size (λ j h. held_short a.kind s.counts text levels buffer j) (omega arith) (omega arith) in
    let placed : Filled (λ j. placed_name (kind_of a.kind) text s.counts.plots levels buffer (suc j)) (names_written name no_names a.size) (lengths_written name no_lengths a.size) a.size = λ j h.
    let less : j < 32 = omega arith in
    ((f.2 j h).0, (f.2 j h).1 ∙ member_placed a.kind s.counts text levels buffer j c.requires.0 less) in
    rw (names, lengths) placed

pub invariant_of-result : goal.invariant_of-result
invariant_of-result c = record { few = c.requires.1; short = λ j h. (held (goal.at.invariant_of-result c).After-name_members j h).0 }

pub returns : goal.returns
returns c =
    let s = c.args.source in
    record {
      names = filled_names (kind_of c.args.kind) s.text.now s.counts.plots s.levels.now c.args.family.now c.args.size c.name_members.new.names c.name_members.new.lengths c.requires.0.0.few (held (goal.at.returns c).After-name_members);
      size = refl;
    }
