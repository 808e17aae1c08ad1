-- `verdict::from_13` meets its contract: a plot member and a treatment member that are not orthogonal, or too many suprema, or the final treatment family.
use mathlib.Core.Path.{◌≡◌, refl, sym, ap, ◌∙◌, subst}
use mathlib.Core.Bool.{Bool}
use Prim.Native.Nat.{ℕ, ◌≤◌}
use native.Mathlib.Omega.{arith}
use Rattle.rules.specs.Factor.{orthogonal}
use Rattle.rules.specs.Family.{Family, members_of, written}
use Rattle.rules.specs.Closing.{final_treatment_family}
use Rattle.rules.specs.Design.{Places, first_cross, question13, question14, treatment_buffer}
use lib.ListN.{length}
use Rattle.rules.proofs.Buffer.{length_members}
use Rattle.design.specs.Answers.{full_numbers, full_numbers_of}
use Rattle.design.specs.Search.{cross_first, cross_second}
use Rattle.design.specs.Treatments.{orthogonal_at}
use Rattle.design.proofs.FullAnswered.{full_refusing_is, full_accepting_is, told_13, passed_13, told_14_over, told_14_on, told_buffer, cross_members}
use Rattle.design.proofs.Order.{sorted_columns}
use Rattle.design.proofs.Rewriting.{written_again}
use Rattle.design.proofs.Suprema.{final_over, final_listed, final_size, sorted_below}
use Rattle.design.proofs.verdict.from_13.Goals as goal
use Rattle.design.proofs.verdict.from_13.Goals.{Start}

-- the plot members
abbrev plots : Start → Family
plots c = members_of c.args.n c.args.plot_family.now c.args.plot

-- the members of the first treatment family
abbrev treatments : Start → Family
treatments c = members_of c.args.n c.args.treatment_family.now c.args.size

-- the first pair that is not orthogonal
abbrev pair : Start → Places
pair c = first_cross (orthogonal c.args.n) 1 (plots c) (treatments c)

-- how many plot members and first treatment members there are
plot-size : (c : Start) → c.args.plot ≡ length (plots c)
plot-size c = sym (length_members c.args.n c.requires.1 c.args.plot_family.now c.args.plot)

treatment-size : (c : Start) → c.args.size ≡ length (treatments c)
treatment-size c = sym (length_members c.args.n c.requires.1 c.args.treatment_family.now c.args.size)

-- the first family is left where it stands
left : (c : Start) → c.args.treatment_family.now ≡ written c.args.treatment_family.now 0 (treatments c)
left c = sym (written_again c.args.n c.requires.1 c.args.treatment_family.now c.args.size (omega (arith, c.requires.3.room, c.requires.3.few)))

-- the places found are those of the first pair
module _ (c : Start) where
  abbrev test : ℕ → ℕ → Bool
  test = orthogonal_at c.args.n c.args.plot_family.now c.args.treatment_family.now

  first_is : (i : ℕ) → i ≡ cross_first test c.args.plot c.args.size → i ≡ (pair c).first
  first_is i e = e ∙ (cross_members c.args.n c.requires.1 c.args.plot_family.now c.args.plot c.args.treatment_family.now c.args.size).0

  second_is : (i j : ℕ) → i ≡ cross_first test c.args.plot c.args.size → j ≡ cross_second test c.args.size i → j ≡ (pair c).second
  second_is i j e f = f ∙ ap (cross_second test c.args.size) e ∙ (cross_members c.args.n c.requires.1 c.args.plot_family.now c.args.plot c.args.treatment_family.now c.args.size).1

  -- question 14 is asked
  asked : cross_first test c.args.plot c.args.size ≡ 0 → question13 (plots c) (treatments c) (pair c) ≡ question14 (plots c) (treatments c) (final_treatment_family (plots c) (treatments c))
  asked e = passed_13 (plots c) (treatments c) (pair c) (sym (first_is 0 (sym e)))

pub returns-in-Err-Apart : goal.returns-in-Err-Apart
returns-in-Err-Apart c =
    let w = (goal.at.returns-in-Err-Apart c).Start in
    let f = rw c.in-Err-Apart.field-0-is at c.in-Err-Apart.ensures in
    let told = rw c.in-Err-Apart.pair-is at c.treatments_refused.ensures in
    let found = c.in-Err-Apart.pair in
    let first = first_is w found.first f.0 in
    let second = second_is w found.first found.second f.0 f.1 in
    let t = told_13 (plots w) (treatments w) (pair w) (λ z. f.2 (first ∙ z)) in record {
      answer = told ∙ full_refusing_is 13 first second (plot-size w) (treatment-size w) ∙ sym t.numbers;
      buffer = left w ∙ sym (told_buffer w.args.treatment_family.now t);
    }

pub returns-in-Err-TooMany : goal.returns-in-Err-TooMany
returns-in-Err-TooMany c =
    let w = (goal.at.returns-in-Err-TooMany c).Start in
    let f = rw c.in-Err-TooMany.field-0-is at c.in-Err-TooMany.ensures in
    let t = told_14_over (plots w) (treatments w) (final_treatment_family (plots w) (treatments w)) (final_over (plots w) (treatments w) f.1) in record {
      answer = c.treatments_refused-in-Err-TooMany.ensures ∙ full_refusing_is 14 refl refl (plot-size w) (treatment-size w) ∙ sym t.numbers ∙ ap full_numbers_of (sym (asked w f.0));
      buffer = left w ∙ sym (told_buffer w.args.treatment_family.now t) ∙ ap (treatment_buffer w.args.treatment_family.now) (sym (asked w f.0));
    }

pub sort-order-requires : goal.sort-order-requires
sort-order-requires c = let b = c.in-Ok.ensures.1 in (b.held, b.distinct)

pub write-requires : goal.write-requires
write-requires c =
    let b = c.in-Ok.ensures.1 in
    let found = c.cross.new.found in
    let order = c.sort-order.ensures in (
      b.held.most,
      b.held.room,
      b.held.few,
      c.requires.3.room,
      order.entries,
      sorted_below c.args.n found.bytes found.size c.sort-order.result b.held.most b.held.few order,
    )

pub returns-in-Ok : goal.returns-in-Ok
unfolding full_numbers
returns-in-Ok c =
    let w = (goal.at.returns-in-Ok c).Start in
    let n = w.args.n in
    let found = c.cross.new.found in
    let b = c.in-Ok.ensures.1 in
    let e = asked w c.in-Ok.ensures.0 in
    let R = final_treatment_family (plots w) (treatments w) in
    let many = final_size (plots w) (treatments w) n found.bytes found.counts found.size b in
    let t = told_14_on (plots w) (treatments w) R (subst (λ (k : ℕ). k ≤ 32) many b.held.few) in record {
      answer = full_accepting_is (plot-size w) many ∙ sym t.numbers ∙ ap full_numbers_of (sym e);
      buffer = c.write.ensures
          ∙ ap (written w.args.treatment_family.now 0)
          (sorted_columns n b.held.most found.bytes found.size c.sort-order.result b.held.few c.sort-order.ensures ∙ final_listed (plots w) (treatments w) n found.bytes found.counts found.size b)
          ∙ sym (told_buffer w.args.treatment_family.now t)
          ∙ ap (treatment_buffer w.args.treatment_family.now) (sym e);
    }
