use Rattle.std.proofs.Common.{ℕ, Bool, false, ◌≡◌, ◌<◌, ◌+◌, ◌*◌, ◌/◌, true, length, get_or, sym, ◌∙◌, arith, rules}
use Rattle.std.proofs.lemmas.Slice.Zip.{zip_turn, zip_end}
use Rattle.std.proofs.lemmas.List.{length_push}
use Rattle.rules.specs.Formula.{plot_count}
use Rattle.block_formula.proofs.PlotLaws.{count_some, size_some, coding_starts, coding_ends, coding_turn, coded_few}
use Rattle.block_formula.proofs.plots.Plots.code.Goals as goal
use Rattle.block_formula.proofs.plots.Plots.code.Goals.{After-from-count, then-is_seen, else-is_seen}

pub loop-count-init : goal.loop-count-init
loop-count-init c = coding_starts c.args.self.now.counts.now c.args.seen c.args.self.now.plots c.args.u c.args.self.now.counted.plots_are c.requires

abbrev Turn : After-from-count → Type 0
Turn c = let l = c.loop-count in (length l.yielded < length c.args.self.now.counts.now) × (length l.yielded < length c.args.seen) × ((d : ℕ) → c.in-Some.field-0-0.now ≡ get_or c.args.self.now.counts.now (length l.yielded) d) × ((d : Bool) → c.in-Some.field-0-1.now ≡ get_or c.args.seen (length l.yielded) d)

turn : (c : After-from-count) → Turn c
turn c =
    zip_turn c.args.self.now.counts.now c.args.seen c.loop-count.yielded c.into_iter-count-iterator.result c.loop-count.count-iterator c.next.new.self c.next.result (search rules) (search rules) c.loop-count.yielded_by
    (c.in-Some.field-0-0, c.in-Some.field-0-1) c.in-Some.is c.next.ensures.steps

-- the count of the name, as the laws have it
count_is : (c : After-from-count) → c.from-count.result ≡ get_or c.args.self.now.counts.now (length c.loop-count.yielded) 0
count_is c = c.from-count.ensures ∙ (turn c).2 0

-- with the name's mark the code stays below the number of plots
few : (c : After-from-count) → c.in-Some.field-0-1.now ≡ true → c.loop-count.code * c.from-count.result + c.loop-count.rest / (c.loop-count.size / c.from-count.result) < 241
few c marked =
    let a = c.args in
    let l = c.loop-count in
    let p = a.self.now.counted in
    let cs = a.self.now.counts.now in
    let u : a.u < plot_count cs = omega (arith, p.plots_are, c.requires) in
    let n = coded_few cs a.seen a.u l.code l.rest l.size (length l.yielded) l.invariant (turn c).0 u (sym ((turn c).3 false) ∙ marked) in
    rw (count_is c) (omega (arith, p.few, p.plots_are, n))

-- the plots that are left are some
some : (c : After-from-count) → 0 < c.loop-count.size / c.from-count.result
some c =
    let a = c.args in
    let l = c.loop-count in
    rw (count_is c) (size_some a.self.now.counts.now a.seen a.u l.code l.rest l.size (length l.yielded) l.invariant (turn c).0)

pub nonzero_div-size : goal.nonzero_div-size
nonzero_div-size c =
    let a = c.args in
    let l = c.loop-count in
    rw (count_is c) (count_some a.self.now.counts.now a.seen a.u l.code l.rest l.size (length l.yielded) l.invariant (turn c).0)

pub overflow_mul-code : goal.overflow_mul-code
overflow_mul-code c = omega (arith, few (goal.at.overflow_mul-code c).After-from-count c.if-is_seen.true)

pub nonzero_div-code : goal.nonzero_div-code
nonzero_div-code c = some (goal.at.nonzero_div-code c).After-from-count

pub overflow_add-code : goal.overflow_add-code
overflow_add-code c = omega (arith, few (goal.at.overflow_add-code c).After-from-count c.if-is_seen.true)

pub nonzero_rem-rest : goal.nonzero_rem-rest
nonzero_rem-rest c = some (goal.at.nonzero_rem-rest c).After-from-count

pub loop-count-preserved : goal.loop-count-preserved
loop-count-preserved c =
    let d = (goal.at.loop-count-preserved c).After-from-count in
    let a = c.args in
    let l = c.loop-count in
    let mark = (turn d).3 false in
    rw (length_push l.yielded (c.in-Some.field-0-0, c.in-Some.field-0-1), count_is d)
    (coding_turn a.self.now.counts.now a.seen a.u l.code l.rest l.size (length l.yielded) l.invariant (turn d).0 c.if-is_seen.code
    (rw (sym mark, sym (count_is d)) (elim c.if-is_seen.branch [ then-is_seen w ↦ w.code-is ∙ rw w.if-is_seen.true | else-is_seen w ↦ w.code-is ∙ rw w.if-is_seen.false ])))

pub returns : goal.returns
returns c =
    let a = c.args in
    let l = c.loop-count in
    let cs = a.self.now.counts.now in
    let end = zip_end cs a.seen l.yielded c.into_iter-count-iterator.result l.count-iterator c.next.new.self c.next.result (search rules) (search rules) l.yielded_by c.in-None.is c.next.ensures.steps in
    let z : length l.yielded ≡ length cs = omega (arith, end, a.self.now.counted.names) in
    coding_ends cs a.seen a.u l.code l.rest l.size (rw z at l.invariant)
