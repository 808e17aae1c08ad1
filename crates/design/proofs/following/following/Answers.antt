-- `following` meets its contract: the supremum of a finer member that is finer than it is the pair's own.
use mathlib.Core.Path.{◌≡◌, sym, ◌∙◌, subst}
use mathlib.Core.Logic.{◌⊎◌, inl, inr, ⊎_elim}
use mathlib.Core.List.{List}
use mathlib.Core.Bool.{true}
use Prim.Native.Nat.{ℕ, ◌*◌, ◌<◌, ◌≤◌}
use native.Mathlib.Omega.{arith}
use lib.ListN.{length, get_or}
use Rattle.std.proofs.Common.{rules, Some}
use Rattle.rules.specs.Factor.{Finer}
use Rattle.design.specs.State.{column_at}
use Rattle.design.specs.Crossing.{Join, Chosen}
use Rattle.design.specs.Sides.{plot_of, treatment_of}
use Rattle.factor.proofs.Lent.{length_part}
use Rattle.design.proofs.FinerWords.{finer_lent, order_asked}
use Rattle.design.proofs.Joins.{plot_entries, plot_less, plot_follows, first_entries, first_less, first_above, first_follows}
use Rattle.design.proofs.Sides.{plot_member, treatment_member, plot_words, treatment_words, length_plot, length_treatment}
use Rattle.design.proofs.following.following.Goals as goal
use Rattle.design.proofs.following.following.Goals.{Start, After-coarsest-p, After-coarsest-q, In_ok-place, then-eq-2, else-eq-2}

-- the supremum of the two members stands at place q
abbrev Joined : Start → ℕ → Type 0
Joined c q = let s = c.args.sides.now in Join s.plot.plots (plot_of s c.args.i) (treatment_of s c.args.j) c.args.found.now.bytes c.args.found.now.size q

-- the member there
abbrev there : Start → ℕ → List ℕ
there c q = column_at c.args.sides.now.plot.plots c.args.found.now.bytes q

module _ (c : Start) where
  few : c.args.found.now.size ≤ 32
  few = c.requires.2.growing.held.few

  module _ (q : ℕ) where
    -- the entry of a finer plot member
    plot_within : Chosen c.args.joins.now c.args.j 32 (get_or c.args.sides.now.plot.finer c.args.i 0) q → q < c.args.found.now.size
    plot_within = let s = c.args.sides.now in let p = plot_member s c.requires.0 in let t = treatment_member s c.requires.1 in
        plot_less s.plot.ordered.most p.room t.room few c.requires.2.table c.args.i c.args.j _ p.place t.place (plot_words s c.args.i) q

    by_plots : Chosen c.args.joins.now c.args.j 32 (get_or c.args.sides.now.plot.finer c.args.i 0) q → Finer c.args.sides.now.plot.plots (plot_of c.args.sides.now c.args.i) (there c q) → Joined c q
    by_plots = let s = c.args.sides.now in let p = plot_member s c.requires.0 in let t = treatment_member s c.requires.1 in
        plot_follows s.plot.ordered.most p.room t.room few c.requires.2.table c.args.i c.args.j _ p.place t.place (plot_words s c.args.i) q

    -- the entry of a finer treatment member
    first_within : Chosen c.args.joins.now (32 * c.args.i) 1 (get_or c.args.sides.now.treatment.finer c.args.j 0) q → q < c.args.found.now.size
    first_within = let s = c.args.sides.now in let p = plot_member s c.requires.0 in let t = treatment_member s c.requires.1 in
        first_less s.plot.ordered.most p.room t.room few c.requires.2.table c.args.i c.args.j _ p.place t.place (treatment_words s c.args.j) q

    above : Chosen c.args.joins.now (32 * c.args.i) 1 (get_or c.args.sides.now.treatment.finer c.args.j 0) q → Finer c.args.sides.now.plot.plots (plot_of c.args.sides.now c.args.i) (there c q)
    above = let s = c.args.sides.now in let p = plot_member s c.requires.0 in let t = treatment_member s c.requires.1 in
        first_above s.plot.ordered.most p.room t.room few c.requires.2.table c.args.i c.args.j _ p.place t.place (treatment_words s c.args.j) q

    by_firsts : Chosen c.args.joins.now (32 * c.args.i) 1 (get_or c.args.sides.now.treatment.finer c.args.j 0) q → Finer c.args.sides.now.plot.plots (treatment_of c.args.sides.now c.args.j) (there c q) → Joined c q
    by_firsts = let s = c.args.sides.now in let p = plot_member s c.requires.0 in let t = treatment_member s c.requires.1 in
        first_follows s.plot.ordered.most p.room t.room few c.requires.2.table c.args.i c.args.j _ p.place t.place (treatment_words s c.args.j) q

-- the place that is chosen is one of the two
either : (c : In_ok-place) → (c.coarsest-p.result ≡ Some c.in_ok-place.place) ⊎ (c.coarsest-q.result ≡ Some c.in_ok-place.place)
either c = ⊎_elim (λ h. inl (sym h ∙ c.in_ok-place.was)) (λ h. inr (sym h ∙ c.in_ok-place.was)) c.fewer.ensures

within : (c : In_ok-place) → c.in_ok-place.place < c.args.found.now.size
within c = let s = (goal.at.In_ok-place c).Start in
    ⊎_elim (λ h. plot_within s _ (c.coarsest-p.ensures _ h)) (λ h. first_within s _ (c.coarsest-q.ensures _ h)) (either c)

-- the member there is on n plots
length_there : (c : In_ok-place) → length (there (goal.at.In_ok-place c).Start c.in_ok-place.place) ≡ c.args.sides.now.plot.plots
length_there c = let h = c.requires.2.growing.held in
    length_part c.args.sides.now.plot.plots c.in_ok-place.place c.args.found.now.bytes (omega (arith, within c, h.room, h.most, h.few))

pub coarsest-p-requires : goal.coarsest-p-requires
coarsest-p-requires c = let s = c.args.sides.now in let p = plot_member s c.requires.0 in let t = treatment_member s c.requires.1 in
    (omega (arith, t.place), omega arith, plot_entries s.plot.ordered.most p.room t.room c.requires.2.growing.held.few c.requires.2.table c.args.i c.args.j _ p.place t.place (plot_words s c.args.i))

pub coarsest-q-requires : goal.coarsest-q-requires
coarsest-q-requires c = let s = c.args.sides.now in let p = plot_member s c.requires.0 in let t = treatment_member s c.requires.1 in
    (omega (arith, p.place), omega arith, first_entries s.plot.ordered.most p.room t.room c.requires.2.growing.held.few c.requires.2.table c.args.i c.args.j _ p.place t.place (treatment_words s c.args.j))

pub returns-then-eq : goal.returns-then-eq
returns-then-eq c = let s = (goal.at.returns-then-eq c).Start in
    let same : c.coarsest-p.result ≡ c.coarsest-q.result = search rules in
    λ q e. by_plots s q (c.coarsest-p.ensures q e) (above s q (c.coarsest-q.ensures q (sym same ∙ e)))

pub fewer-requires-clause-first : goal.fewer-requires-clause-first
fewer-requires-clause-first c = λ k e. omega (arith, plot_within (goal.at.fewer-requires-clause-first c).Start k (c.coarsest-p.ensures k e), c.requires.2.growing.held.few)

pub fewer-requires-clause-second : goal.fewer-requires-clause-second
fewer-requires-clause-second c = λ k e. omega (arith, first_within (goal.at.fewer-requires-clause-second c).Start k (c.coarsest-q.ensures k e), c.requires.2.growing.held.few)

pub bounds-found-place : goal.bounds-found-place
bounds-found-place c = omega (arith, within (goal.at.bounds-found-place c).In_ok-place, c.requires.2.growing.held.few)

pub found_finer-is_finer-requires : goal.found_finer-is_finer-requires
found_finer-is_finer-requires c = let w = (goal.at.found_finer-is_finer-requires c).In_ok-place in
    let s = c.args.sides.now in
    let p = plot_member s c.requires.0 in
    order_asked c.member.ensures c.member-supremum.ensures (length_plot s c.requires.0 c.requires.1) (length_there w) s.plot.ordered.some s.plot.ordered.most p.count (c.requires.2.growing.held.counted _ (within w))

pub found_finer-is_finer-requires-else-eq-2 : goal.found_finer-is_finer-requires-else-eq-2
found_finer-is_finer-requires-else-eq-2 c = let w = (goal.at.found_finer-is_finer-requires-else-eq-2 c).In_ok-place in
    let s = c.args.sides.now in
    let t = treatment_member s c.requires.1 in
    order_asked c.member-else-eq-2.ensures c.member-supremum.ensures (length_treatment s c.requires.0 c.requires.1) (length_there w) s.plot.ordered.some s.plot.ordered.most t.count (c.requires.2.growing.held.counted _ (within w))

pub returns : goal.returns
returns c = let w = (goal.at.returns c).In_ok-place in
    let start = (goal.at.returns c).Start in
    let s = c.args.sides.now in
    let place = c.in_ok-place.place in
    λ q e.
    let told : (c.if-eq-2.is_finer ≡ true) × (place ≡ q) = search rules in
    subst (Joined start) told.1 (elim c.if-eq-2.branch [
      | then-eq-2 b ↦
          let same : c.coarsest-p.result ≡ Some place = search rules in
          by_plots start place (c.coarsest-p.ensures place same) (finer_lent _ _ _ _ _ b.member.ensures c.member-supremum.ensures (length_plot s c.requires.0 c.requires.1) (b.found_finer-is_finer.ensures (sym b.is_finer-is ∙ told.0)))
      | else-eq-2 b ↦
          let other : c.coarsest-q.result ≡ Some place = ⊎_elim (λ h. absurd (search rules)) (λ h. h) (either w) in
          by_firsts start place (c.coarsest-q.ensures place other) (finer_lent _ _ _ _ _ b.member-else-eq-2.ensures c.member-supremum.ensures (length_treatment s c.requires.0 c.requires.1) (b.found_finer-is_finer-else-eq-2.ensures (sym b.is_finer-is ∙ told.0)))
    ])
