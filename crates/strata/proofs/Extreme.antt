-- Laws of a member with one class, or with a class for each plot, in the order of members.
-- Assumes nothing.
use mathlib.Core.Path.{◌≡◌, sym, ap, ap₂, ◌∙◌}
use mathlib.Core.Bool.{true, false}
use mathlib.Core.List.{List}
use Prim.Native.Nat.{ℕ, ◌<◌, ◌≤◌}
use native.Mathlib.Omega.{arith}
use lib.ListN.{length}
use Rattle.rules.specs.Factor.{Column, number, classes, finer}
use Rattle.rules.specs.Family.{members_of}
use Rattle.rules.proofs.Buffer.{member_is}
use Rattle.rules.proofs.Classes.{finer_test}
use Rattle.rules.proofs.ClassCount.{finer_equal, finer_universal, equality_finer, one_class, each_class}
use Rattle.rules.proofs.Numbering.{by_cases}
use Rattle.rules.proofs.StrictOrder.{finer_equal_places}
use Rattle.rules.proofs.WellFormed.{numbered_at}
use Rattle.families.specs.Lent.{column_at}
use Rattle.families.proofs.Lent.{length_column}
use Rattle.strata.specs.Lent.{Formed}
use Rattle.strata.specs.Words.{Apart}
use Rattle.strata.specs.Family.{column, IsCounted}
use Rattle.strata.specs.declared.family.Family.{Family}
use Rattle.strata.specs.declared.family.Counted.{Counted}
use Rattle.strata.proofs.Lent.{accepted_members, size_members, on_plots_lem}

module _ (n : ℕ) (F G : Column) where
  -- a class for each plot: finer than all
  pub each_finer : length F ≡ n → classes F ≡ n → finer n F G ≡ true
  each_finer l e = (finer_test n F G).1 (λ u v hu hv s. equality_finer n G u v hu hv (((each_class n F l).0 e).to u v hu hv s))

  -- one class: coarser than all
  pub one_coarser : length G ≡ n → classes G ≡ 1 → finer n F G ≡ true
  one_coarser l e = (finer_test n F G).1 (λ u v hu hv s. ((one_class n G l (omega arith)).0 e).from u v hu hv (finer_universal n F u v hu hv s))

-- the members are numbered
pub numbered_member : {n : ℕ} {b : List ℕ} {size : ℕ} → Formed n b size → (i : ℕ) → i < size → number (column_at n b i) ≡ column_at n b i
numbered_member {n} {b} {size} is i h =
    let here = member_is n is.few_plots b size i h in
    sym (ap number here) ∙ numbered_at (members_of n b size) (accepted_members is).numbered i (omega (arith, size_members is)) ∙ here

-- of different members with as many classes neither is finer
pub members_apart : {n : ℕ} {b : List ℕ} {size : ℕ} → Formed n b size → (i : ℕ) → i < size → Apart n b i
members_apart {n} {b} {size} is i h j l e = by_cases (finer n F G) (λ f. absurd (differ f)) (λ f. f)
  where
    F : Column
    F = column_at n b i

    G : Column
    G = column_at n b j

    differ : finer n F G ≡ true → ⊥
    differ f =
        let few : size ≤ 32 = is.few in
        let at_i = member_is n is.few_plots b size i h in
        let at_j = member_is n is.few_plots b size j (omega arith) in
        let both = finer_equal n F G (length_column n i b is.few_plots (omega arith) is.long) (length_column n j b is.few_plots (omega arith) is.long) ((finer_test n F G).0 f) e in
        let same : i ≡ j =
        finer_equal_places n (members_of n b size) (accepted_members is) (on_plots_lem is) i j (omega (arith, size_members is)) (omega (arith, size_members is))
        (ap₂ (finer n) at_i at_j ∙ f) (ap₂ (finer n) at_j at_i ∙ (finer_test n G F).1 both.from) in
        omega arith

-- there is one
pub some_members : {n : ℕ} {b : List ℕ} {size : ℕ} → Formed n b size → 1 ≤ size
some_members is = omega (arith, (accepted_members is).some, size_members is)

-- ---- the same of members that are counted

module _ (f : Family) where
  -- a member's labels
  pub on_plots_of : (i : ℕ) → i < f.size → length (column f i) ≡ f.plots
  on_plots_of i h = let few : f.size ≤ 32 = f.formed.few in length_column f.plots i f.bytes.now f.formed.few_plots (omega arith) f.formed.long

  module _ (m : Counted) (is : IsCounted f m) where
    -- a class for each plot
    pub counted_each : (F : Column) → m.classes ≡ f.plots → finer f.plots (column f m.place) F ≡ true
    counted_each F e = each_finer f.plots (column f m.place) F (on_plots_of m.place is.within) (sym is.counted ∙ e)

    -- one class
    pub counted_one : (F : Column) → m.classes ≡ 1 → finer f.plots F (column f m.place) ≡ true
    counted_one F e = one_coarser f.plots F (column f m.place) (on_plots_of m.place is.within) (sym is.counted ∙ e)

    -- as many classes as another before it
    pub counted_apart : (b : Counted) → IsCounted f b → b.place < m.place → m.classes ≡ b.classes → finer f.plots (column f m.place) (column f b.place) ≡ false
    counted_apart b at l e = members_apart f.formed m.place is.within b.place l (sym is.counted ∙ e ∙ at.counted)
