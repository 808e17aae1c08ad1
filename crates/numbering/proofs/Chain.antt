-- Laws of the labels seen, chained by buckets.
-- Assumes nothing.
use mathlib.Core.Path.{◌≡◌, refl, sym, ap, ◌∙◌}
use mathlib.Core.List.{List}
use Prim.Native.Nat.{ℕ, zero, suc, ◌+◌, ◌≤◌, ◌<◌, zero-le}
use native.Mathlib.Nat.{not-suc-le-zero, le_trans}
use native.Mathlib.Omega.{arith}
use lib.Dec.{eqb}
use lib.ListN.{length, get_or, take, set, replicate, length-set, length-replicate}
use lib.Seq.{get_or-set_same, get_or-set_other}
use borrow.Author.Tests.{eqb-true, eqb-false, eq-eqb, ne_eqb}
use Rattle.rules.specs.Limits.{most_plots}
use Rattle.rules.specs.Factor.{Column, at, number, classes}
use Rattle.rules.proofs.Numbering.{by_cases}
use Rattle.rules.proofs.Columns.{Tells, tells_none}
use Rattle.numbering.specs.Seen.{class_numbers, buckets, bucket_of, look_up, found, Descends, Chained, look}
use Rattle.std.specs.Prelude.{Some, None}
use Rattle.factor.proofs.Table.{stepped_old, stepped_new, get_d_zeros, classes_none}

module _ (labels chain : List ℕ) (x : ℕ) where
  -- class c has the label
  pub look_hit : (m c : ℕ) → (c ≡ 0 → ⊥) → get_or labels c 0 ≡ x → look_up labels chain x (suc m) c ≡ c
  unfolding look_up
  look_hit m zero h e = absurd (h refl)
  look_hit m (suc c) h e = rw (eq-eqb _ _ e, look_up)

  -- it has not
  pub look_miss : (m c : ℕ) → (c ≡ 0 → ⊥) → (get_or labels c 0 ≡ x → ⊥) → look_up labels chain x (suc m) c ≡ look_up labels chain x m (get_or chain c 0)
  unfolding look_up
  look_miss m zero h e = absurd (h refl)
  look_miss m (suc c) h e = rw (ne_eqb _ _ e, look_up)

  -- the chain ends
  pub look_end : (m : ℕ) → look_up labels chain x m 0 ≡ 0
  unfolding look_up
  look_end zero = refl
  look_end (suc m) = refl

  -- more steps than classes are enough
  pub look_enough : (k : ℕ) → Descends chain k → (m n c : ℕ) → c ≤ k → c < m → c < n → look_up labels chain x m c ≡ look_up labels chain x n c
  look_enough k d zero n c h p q = absurd (not-suc-le-zero p)
  look_enough k d (suc m) zero c h p q = absurd (not-suc-le-zero q)
  look_enough k d (suc m) (suc n) zero h p q = look_end (suc m) ∙ sym (look_end (suc n))
  look_enough k d (suc m) (suc n) (suc c) h p q =
      by_cases (eqb (get_or labels (suc c) 0) x)
      (λ e. look_hit m (suc c) (λ z. omega arith) (eqb-true _ _ e) ∙ sym (look_hit n (suc c) (λ z. omega arith) (eqb-true _ _ e)))
      (λ e. let ne : get_or labels (suc c) 0 ≡ x → ⊥ = eqb-false _ _ e in
      let l : get_or chain (suc c) 0 < suc c = d (suc c) (omega arith) h in
      look_miss m (suc c) (λ z. omega arith) ne ∙ look_enough k d m n (get_or chain (suc c) 0) (omega arith) (omega arith) (omega arith) ∙ sym (look_miss n (suc c) (λ z. omega arith) ne))

  -- what is found is no later class
  pub look_le : (k : ℕ) → Descends chain k → (m c : ℕ) → c ≤ k → look_up labels chain x m c ≤ c
  unfolding look_up
  look_le k d zero c h = zero-le
  look_le k d (suc m) zero h = zero-le
  look_le k d (suc m) (suc c) h =
      by_cases (eqb (get_or labels (suc c) 0) x)
      (λ e. rw (look_hit m (suc c) (λ z. omega arith) (eqb-true _ _ e)) (omega arith))
      (λ e. let l : get_or chain (suc c) 0 < suc c = d (suc c) (omega arith) h in
      let r = look_le k d m (get_or chain (suc c) 0) (omega arith) in
      rw (look_miss m (suc c) (λ z. omega arith) (eqb-false _ _ e)) (omega arith))

-- what was found, as an option
pub found_some : (c d : ℕ) → (c ≡ 0 → ⊥) → c ≡ d → Some c ≡ found d
found_some zero d h e = absurd (h refl)
found_some (suc c) d h e = ap found e

pub found_is : (c d : ℕ) → Some c ≡ found d → (d ≡ c) × (d ≡ 0 → ⊥)
found_is c zero e = absurd (cc)
found_is c (suc d) e = (cc, λ z. omega arith)

pub found_none : (d : ℕ) → None ≡ found d → d ≡ 0
found_none zero e = refl
found_none (suc d) e = absurd (cc)

pub bucket_less : (x : ℕ) → bucket_of x < buckets
unfolding bucket_of
bucket_less x = omega arith

-- class k + 1 with the label x is put in front of its bucket
module _ (labels chain last : List ℕ) (k x : ℕ) (held : Chained labels chain last k) (room : k < most_plots) where
  abbrev labels' : List ℕ
  labels' = set labels (k + 1) x

  abbrev chain' : List ℕ
  chain' = set chain (k + 1) (get_or last (bucket_of x) 0)

  abbrev last' : List ℕ
  last' = set last (bucket_of x) (k + 1)

  label_here : get_or labels' (k + 1) 0 ≡ x
  label_here = get_or-set_same labels (k + 1) x 0 (omega (arith, held.labels_room))

  chain_here : get_or chain' (k + 1) 0 ≡ get_or last (bucket_of x) 0
  chain_here = get_or-set_same chain (k + 1) (get_or last (bucket_of x) 0) 0 (omega (arith, held.chain_room))

  front_here : get_or last' (bucket_of x) 0 ≡ k + 1
  front_here = get_or-set_same last (bucket_of x) (k + 1) 0 (omega (arith, bucket_less x, held.last_room))

  label_stays : (c : ℕ) → c ≤ k → get_or labels' c 0 ≡ get_or labels c 0
  label_stays c h = get_or-set_other labels (k + 1) c x 0 (λ e. omega arith)

  chain_stays : (c : ℕ) → c ≤ k → get_or chain' c 0 ≡ get_or chain c 0
  chain_stays c h = get_or-set_other chain (k + 1) c (get_or last (bucket_of x) 0) 0 (λ e. omega arith)

  look_stays : (y m c : ℕ) → c ≤ k → look_up labels' chain' y m c ≡ look_up labels chain y m c
  unfolding look_up
  look_stays y zero c h = refl
  look_stays y (suc m) zero h = refl
  look_stays y (suc m) (suc c) h =
      by_cases (eqb (get_or labels (suc c) 0) y)
      (λ e. look_hit labels' chain' y m (suc c) (λ z. omega arith) (label_stays (suc c) h ∙ eqb-true _ _ e) ∙ sym (look_hit labels chain y m (suc c) (λ z. omega arith) (eqb-true _ _ e)))
      (λ e. let ne : get_or labels (suc c) 0 ≡ y → ⊥ = eqb-false _ _ e in
      let l : get_or chain (suc c) 0 < suc c = held.descends (suc c) (omega arith) h in
      look_miss labels' chain' y m (suc c) (λ z. omega arith) (λ q. ne (sym (label_stays (suc c) h) ∙ q))
      ∙ ap (look_up labels' chain' y m) (chain_stays (suc c) h)
      ∙ look_stays y m (get_or chain (suc c) 0) (omega arith)
      ∙ sym (look_miss labels chain y m (suc c) (λ z. omega arith) ne))

  pub look_new : look labels' chain' last' x ≡ k + 1
  look_new =
      ap (look_up labels' chain' x class_numbers) front_here
      ∙ look_hit labels' chain' x most_plots (k + 1) (λ z. omega arith) label_here

  pub look_other : (y : ℕ) → (y ≡ x → ⊥) → look labels' chain' last' y ≡ look labels chain last y
  look_other y ne =
      by_cases (eqb (bucket_of y) (bucket_of x))
      (λ e. let q : bucket_of y ≡ bucket_of x = eqb-true _ _ e in
      let l : get_or last (bucket_of x) 0 ≤ k = held.heads (bucket_of x) in
      ap (λ (b : ℕ). look_up labels' chain' y class_numbers (get_or last' b 0)) q
      ∙ ap (look_up labels' chain' y class_numbers) front_here
      ∙ look_miss labels' chain' y most_plots (k + 1) (λ z. omega arith) (λ p. ne (sym p ∙ label_here))
      ∙ ap (look_up labels' chain' y most_plots) chain_here
      ∙ look_stays y most_plots (get_or last (bucket_of x) 0) l
      ∙ look_enough labels chain y k held.descends most_plots class_numbers (get_or last (bucket_of x) 0) l (omega arith) (omega arith)
      ∙ ap (λ (b : ℕ). look_up labels chain y class_numbers (get_or last b 0)) (sym q))
      (λ e. ap (look_up labels' chain' y class_numbers) (get_or-set_other last (bucket_of x) (bucket_of y) (k + 1) 0 (eqb-false _ _ e))
      ∙ look_stays y class_numbers (get_or last (bucket_of y) 0) (held.heads (bucket_of y)))

  descends_new : Descends chain' (k + 1)
  descends_new c p h =
      by_cases (eqb c (k + 1))
      (λ e. let q : c ≡ k + 1 = eqb-true _ _ e in rw (q, chain_here) (omega (arith, held.heads (bucket_of x))))
      (λ e. let ne : c ≡ k + 1 → ⊥ = eqb-false _ _ e in let l : c ≤ k = omega (arith, ne) in rw (chain_stays c l) (held.descends c p l))

  heads_new : (b : ℕ) → get_or last' b 0 ≤ k + 1
  heads_new b =
      by_cases (eqb b (bucket_of x))
      (λ e. let q : b ≡ bucket_of x = eqb-true _ _ e in rw (q, front_here) (omega arith))
      (λ e. rw (get_or-set_other last (bucket_of x) b (k + 1) 0 (eqb-false _ _ e)) (omega (arith, held.heads b)))

  pub chained_new : Chained labels' chain' last' (k + 1)
  chained_new = record {
    labels_room = length-set labels (k + 1) x ∙ held.labels_room;
    chain_room = length-set chain (k + 1) (get_or last (bucket_of x) 0) ∙ held.chain_room;
    last_room = length-set last (bucket_of x) (k + 1) ∙ held.last_room;
    descends = descends_new;
    heads = heads_new;
  }

-- the labels of the plots before plot u, chained; there are k
pub record Seen (F : Column) (u : ℕ) (labels chain last : List ℕ) (k : ℕ) : Type 0 where
  pub chained : Chained labels chain last k
  pub count : k ≡ classes (take u F)
  pub tells : Tells F u (look labels chain last)

-- the same of what equals them
pub seen_is : (F : Column) (u : ℕ) {labels chain last labels' chain' last' : List ℕ} {k k' : ℕ} → labels' ≡ labels → chain' ≡ chain → last' ≡ last → k' ≡ k
    → Seen F u labels chain last k → Seen F u labels' chain' last' k'
seen_is F u a b c d s = rw (a, b, c, d) s

pub seen_none : (F : Column) → Seen F 0 (replicate class_numbers 0) (replicate class_numbers 0) (replicate buckets 0) 0
seen_none F = record {
  chained = record {
    labels_room = length-replicate {A = ℕ} class_numbers 0;
    chain_room = length-replicate {A = ℕ} class_numbers 0;
    last_room = length-replicate {A = ℕ} buckets 0;
    descends = λ c p h. rw (get_d_zeros class_numbers c) p;
    heads = λ b. rw (get_d_zeros buckets b) zero-le;
  };
  count = classes_none;
  tells = tells_none F (look labels chain last) (λ y. ap (look_up labels chain y class_numbers) (get_d_zeros buckets (bucket_of y)) ∙ look_end labels chain y class_numbers);
}
  where
    labels : List ℕ
    labels = replicate class_numbers 0

    chain : List ℕ
    chain = replicate class_numbers 0

    last : List ℕ
    last = replicate buckets 0

module _ (F : Column) (u : ℕ) (labels chain last : List ℕ) (k : ℕ) (seen : Seen F u labels chain last k) (h : u < length F) where
  -- a label seen before
  pub seen_old : (look labels chain last (at F u) ≡ 0 → ⊥) → Seen F (u + 1) labels chain last k × (look labels chain last (at F u) ≡ at (number F) u) × (look labels chain last (at F u) ≤ k)
  seen_old ne =
      let t = stepped_old F u h (look labels chain last) seen.tells k seen.count ne in
      let held = seen.chained in
      let l = held.heads (bucket_of (at F u)) in
      (record { chained = held; count = t.count; tells = t.tells }, t.here, le_trans (look_le labels chain (at F u) k held.descends class_numbers (get_or last (bucket_of (at F u)) 0) l) l)

  -- a new label
  pub seen_new : k < most_plots → look labels chain last (at F u) ≡ 0
      → Seen F (u + 1) (set labels (k + 1) (at F u)) (set chain (k + 1) (get_or last (bucket_of (at F u)) 0)) (set last (bucket_of (at F u)) (k + 1)) (k + 1) × (k + 1 ≡ at (number F) u)
  seen_new room z =
      let held = seen.chained in
      let l = look_new labels chain last k (at F u) held room in
      let t = stepped_new F u h (look labels chain last) seen.tells k seen.count z _ l (look_other labels chain last k (at F u) held room) in
      (record { chained = chained_new labels chain last k (at F u) held room; count = t.count; tells = t.tells }, sym l ∙ t.here)
