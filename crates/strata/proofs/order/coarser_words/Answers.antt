use Rattle.std.proofs.Common.{◌≡◌, ℕ, ◌<◌, ◌≤◌, List, take, length, get_or, sym, ap, ◌∙◌, arith}
use lib.Seq.{get_or-take}
use Rattle.rules.specs.Factor.{classes}
use Rattle.rules.specs.Relation.{coarser_words}
use Rattle.rules.proofs.Places.{at_places_lem, places_start, places_step, places_end}
use Rattle.strata.specs.Family.{members, column}
use Rattle.strata.proofs.Lent.{size_members}
use Rattle.strata.proofs.Fill.{up_start, up_step, up_at}
use Rattle.strata.proofs.DegreeTurns.{few_classes}
use Rattle.strata.proofs.RelationWords.{finer_word_is, length_coarser}
use Rattle.strata.proofs.order.coarser_words.Goals as goal

pub loop-i-init : goal.loop-i-init
loop-i-init c =
    let f = c.args.family.now in
    (places_start 0 (coarser_words f.plots (members f)), up_start 0 (λ k. classes (column f k)) f.size)

pub coarser_word-word-requires : goal.coarser_word-word-requires
coarser_word-word-requires c =
    let f = c.args.family.now in
    let xs = coarser_words f.plots (members f) in
    let i = c.loop-i.i in
    let few : f.size ≤ 32 = f.formed.few in
    let at : c.counted-member.result.place ≡ i = c.counted-member.ensures.place in (
      c.counted-member.ensures.member,
      λ k l. let h : k < i = omega (arith, l) in
          ap (λ (ws : List ℕ). get_or ws k 0) c.loop-i.invariant.0 ∙ at_places_lem 0 (take i xs) k (omega arith) ∙ get_or-take i xs k 0 h ∙ sym (finer_word_is f.formed k (omega arith)),
      λ k l. let h : k < i = omega (arith, l) in ap (λ (ks : List ℕ). get_or ks k 0) c.loop-i.invariant.1 ∙ up_at 0 (λ m. classes (column f m)) f.size i k h (omega arith) (omega arith),
    )

pub overflow_cast-counts : goal.overflow_cast-counts
overflow_cast-counts c =
    let f = c.args.family.now in
    let is = c.counted-member.ensures.member in
    omega (arith, is.counted, f.formed.few, f.formed.few_plots, f.formed.long, few_classes f.plots f.bytes.now c.counted-member.result.place f.formed.few_plots (omega (arith, is.within, f.formed.few)) f.formed.long)

pub loop-i-preserved : goal.loop-i-preserved
loop-i-preserved c =
    let f = c.args.family.now in
    let xs = coarser_words f.plots (members f) in
    let i = c.loop-i.i in
    let few : f.size ≤ 32 = f.formed.few in
    let at : c.counted-member.result.place ≡ i = c.counted-member.ensures.place in
    let e = rw at at c.coarser_word-word.ensures ∙ finer_word_is f.formed i (omega arith) in
    let k = rw at at c.counted-member.ensures.member.counted in
    (rw (c.loop-i.invariant.0, e) (places_step 0 xs i (omega arith)), rw (c.loop-i.invariant.1, k) (up_step 0 (λ m. classes (column f m)) f.size i (omega arith) (omega arith)))

pub returns : goal.returns
returns c =
    let f = c.args.family.now in
    let l : length (coarser_words f.plots (members f)) ≡ f.size = length_coarser f.plots (members f) ∙ size_members f.formed in
    c.loop-i.invariant.0 ∙ places_end 0 (coarser_words f.plots (members f)) c.loop-i.i (omega arith)
