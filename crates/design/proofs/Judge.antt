-- Laws of a closed family in its order: the marks tell what questions 10 and 12 ask; and of the plot family as it is written.
-- Assumes nothing.
use Rattle.std.specs.Prelude.{Option, None, Some}
use Rattle.design.specs.declared.closed.ClosedFamily.{ClosedFamily}
use mathlib.Core.Path.{◌≡◌, refl, sym, ap, ap₂, ◌∙◌, subst}
use mathlib.Core.Bool.{Bool, true, false}
use mathlib.Core.List.Memᴰ
use mathlib.Core.List.{List, [], ◌∷◌, map}
use Prim.Native.Nat.{ℕ, zero, suc, ◌*◌, ◌≤◌, ◌<◌}
use native.Mathlib.Nat.{not-suc-le-zero, le_of_suc-le-suc, mul_comm}
use native.Mathlib.Omega.{arith}
use lib.Arith.{lt_of_le-ne}
use lib.Dec.{eqb, ltb}
use lib.ListN.{length, get_or, take}
use lib.Seq.{length-take-le, get_or-take}
use borrow.Author.Tests.{ltb-true, ltb-false}
use Rattle.rules.specs.Factor.{Column, classes, uniform, orthogonal}
use Rattle.rules.specs.Family.{Family, ◌∈◌, Distinct, none_left, apart, empty, insert_all, members_of, written}
use Rattle.rules.specs.Closing.{both, only_supremum, Made, plot_generators, plot_family, family, close}
use Rattle.rules.specs.Design.{Places, first_failing, first_pair, question8, plot_buffer}
use Rattle.rules.specs.Relation.{member_at}
use Rattle.rules.proofs.Numbering.{by_cases}
use Rattle.rules.proofs.Members.{ascending_insert_all}
use Rattle.rules.proofs.Closing.{ascending_distinct}
use Rattle.rules.proofs.Bounds.{infimum_comm, supremum_comm}
use Rattle.rules.proofs.Buffer.{length_members, written_members, length_written}
use Rattle.rules.proofs.Orthogonality.{same_test, by_counts}
use Rattle.rules.proofs.Tests.{orthogonal_test, orthogonal_sym}
use Rattle.rules.proofs.Questions.{question_10, plot_length}
use Rattle.rules.proofs.Made.{WellMade, plot_made}
use Rattle.rules.proofs.PlotInfima.{plot_infima, infima_given, infima_whole, suprema_made, same_family}
use Rattle.rules.proofs.WorkList.{length_sorted, member_in}
use Rattle.design.specs.State.{column_at, make_of, pair_mark, marked, Work, Sorted}
use Rattle.design.specs.Search.{first_pair_of}
use Rattle.design.specs.Judging.{apart_at, MarksTell, Listed, listed, Listing, PlotListed, PlotListing, by_counts_holds, by_tests, Judging}
use Rattle.design.specs.Closings.{closed_in, Ready}
use Rattle.design.specs.Treatments.{Numbered}
use Rattle.design.proofs.Asked.{numbered_made}
use Rattle.design.proofs.Answered.{eight_over, eight_buffer}
use Rattle.design.proofs.Order.{sorted_columns}
use Rattle.design.proofs.Search.{pair_found, marked_below, marked_above}
use Rattle.design.proofs.Work.{member_length}

-- ---- lists

-- an element of a list that is made by a function
pub get_d_map : {A : Type 0} (f : ℕ → A) (l : List ℕ) (d : A) (i : ℕ) → i < length l → get_or (map f l) i d ≡ f (get_or l i 0)
get_d_map f [] d i h = absurd (not-suc-le-zero h)
get_d_map f (x ∷ l) d zero h = refl
get_d_map f (x ∷ l) d (suc i) h = get_d_map f l d i (le_of_suc-le-suc h)

-- elements at different places of a list without repeats differ
pub distinct_places : (S : Family) → Distinct S → (i j : ℕ) → i < j → j < length S → member_at S i ≡ member_at S j → ⊥
distinct_places S (apart {x = F} {xs = T} n d) zero (suc j) h k e = n (Memᴰ.cast e (member_in T j (le_of_suc-le-suc k)))
distinct_places S (apart {x = F} {xs = T} n d) (suc i) (suc j) h k e = distinct_places T d i j (le_of_suc-le-suc h) (le_of_suc-le-suc k) e
distinct_places _ none_left i (suc j) h k e = elim k [ ]
distinct_places S d i zero h k e = absurd (not-suc-le-zero h)

-- ---- marks

-- the order of the two does not matter
mark_sym : (infima : Bool) (n : ℕ) (F G : Column) → length F ≡ n → length G ≡ n → pair_mark infima n F G ≡ pair_mark infima n G F
mark_sym true n F G l_f l_g = ap₂ eqb (ap₂ ◌*◌ (ap classes (infimum_comm n F G l_f l_g)) (ap classes (supremum_comm n F G l_f l_g))) (mul_comm (classes F) (classes G))
mark_sym false n F G l_f l_g =
    same_test (orthogonal n F G) (orthogonal n G F)
    (λ e. (orthogonal_test n G F).1 (orthogonal_sym n F G l_f l_g ((orthogonal_test n F G).0 e)))
    (λ e. (orthogonal_test n F G).1 (orthogonal_sym n G F l_g l_f ((orthogonal_test n G F).0 e)))

-- ---- a closed family in its order

module _ {n : ℕ} {infima : Bool} {Gs : List Column} {store counts marks order : List ℕ} {size : ℕ} (w : Work n infima Gs store counts marks size size 0) (s : Sorted (members_of n store size) order) where
  abbrev S : Family
  S = members_of n store size

  abbrev P : Family
  P = insert_all (members_of n store size) []

  len : length S ≡ size
  len = length_members n w.held.most store size

  len_p : length P ≡ size
  len_p = length_sorted S w.found.distinct ∙ len

  -- the entries are places of members
  entry_less : (i : ℕ) → i < size → get_or order i 0 < size
  entry_less i h = rw len at (s.places i (rw len h))

  taken : length (take size order) ≡ size
  taken = length-take-le size order (rw s.entries w.held.few)

  place_is : (i : ℕ) → i < size → member_at P i ≡ member_at S (get_or order i 0)
  place_is i h =
      ap (λ (l : Family). get_or l i []) (sym (rw len at s.members))
      ∙ get_d_map (λ (k : ℕ). member_at S k) (take size order) [] i (rw taken h) ∙ ap (λ (k : ℕ). member_at S k) (get_or-take size order i 0 h)

  different : (i j : ℕ) → i < j → j < size → get_or order i 0 ≡ get_or order j 0 → ⊥
  different i j h k e =
      distinct_places P (ascending_distinct (ascending_insert_all S [] empty)) i j h (rw len_p k)
      (place_is i (omega arith) ∙ ap (λ (x : ℕ). member_at S x) e ∙ sym (place_is j k))

  plots : (k : ℕ) → k < size → length (member_at S k) ≡ n
  plots k h = member_length w.held (member_at S k) (member_in S k (rw len h))

  -- the marks of two members, in whichever order they were found
  marks_are : (a b : ℕ) → a < size → b < size → (a ≡ b → ⊥) → marked marks a b ≡ pair_mark infima n (member_at S a) (member_at S b)
  marks_are a b ha hb ne =
      by_cases (ltb a b)
      (λ e. let h = ltb-true a b e in marked_below marks a b h ∙ w.rows b a h hb ∙ mark_sym infima n (member_at S b) (member_at S a) (plots b hb) (plots a ha))
      (λ e. let h = ltb-false a b e in marked_above marks a b h ∙ w.rows a b (lt_of_le-ne h (λ q. ne (sym q))) ha)

  -- the first pair without a mark
  marks_find : ((apart_at order marks size).first ≡ (first_pair (pair_mark infima n) 1 P).first) × ((apart_at order marks size).second ≡ (first_pair (pair_mark infima n) 1 P).second)
  unfolding apart_at
  marks_find = subst (λ (m : ℕ). ((first_pair_of test m).first ≡ (first_pair (pair_mark infima n) 1 P).first) × ((first_pair_of test m).second ≡ (first_pair (pair_mark infima n) 1 P).second)) len_p (pair_found (pair_mark infima n) test P same)
    where
      test : ℕ → ℕ → Bool
      test i j = marked marks (get_or order i 0) (get_or order j 0)

      same : (i j : ℕ) → i < j → j < length P → test i j ≡ pair_mark infima n (get_or P i []) (get_or P j [])
      same i j h k =
          let kj : j < size = rw len_p at k in
          rw (place_is i (omega arith), place_is j kj) (marks_are (get_or order i 0) (get_or order j 0) (entry_less i (omega arith)) (entry_less j kj) (different i j h kj))

  -- the marks tell the members that the test tells apart
  marks_tell : MarksTell (pair_mark infima n) P order marks size
  marks_tell = record { places = λ i h. omega (arith, entry_less i h, w.held.few); first = marks_find.0; second = marks_find.1 }

  -- the family is written
  pub family_listed : (Hs : List Column) {before after : List ℕ} → close (make_of infima) Hs ≡ family P → after ≡ written before 0 (map (λ (i : ℕ). column_at n store i) (take size order)) → Listed n infima Hs before after marks order size
  family_listed Hs {before} is e = listed P is (sym len_p) w.held.few (e ∙ ap (written before 0) (sorted_columns n w.held.most store size order w.held.few s)) marks_tell

-- ---- the plot family as it is written

module _ (n : ℕ) (small : n ≤ 240) (some : 1 ≤ n) (Fs : List Column) (on : (F : Column) → F ∈ Fs → length F ≡ n) (before after marks : List ℕ) (room : 7680 ≤ length before) where
  module _ {r : ℕ} (S : Family) (is : plot_family n Fs ≡ family S) (q : r ≡ length S) (h : r ≤ 32) (e : after ≡ written before 0 S) where
    -- its members are in memory
    held_members : members_of n after r ≡ S
    unfolding members_of
    held_members = ap₂ (λ (b : List ℕ) (m : ℕ). members_of n b m) e q ∙ written_members n small S before 0 (plot_length n Fs on S is) (omega (arith, room, h, q))

    -- and numbered
    held_numbered : Numbered n after r
    held_numbered =
        numbered_made n small after r (rw e (rw (length_written n small S before 0 (plot_length n Fs on S is) (omega (arith, room, h, q))) room)) h
        (subst (WellMade n) (sym held_members) (plot_made n Fs on S is))

    -- what questions 9 and 10 need to know
    judging : {order : List ℕ} → MarksTell by_counts S order marks r → Judging n r after order marks
    judging {order} t = record {
      some = some;
      most = small;
      members = held_numbered;
      places = t.places;
      tells = λ z. rw held_members (told (rw held_members at z));
    }
      where
        told : first_failing (uniform n) 1 S ≡ 0 → MarksTell (orthogonal n) S order marks r
        told z = let f = question_10 n Fs on S is some z in record { places = t.places; first = t.first ∙ ap (λ (p : Places). p.first) (sym f); second = t.second ∙ ap (λ (p : Places). p.second) (sym f) }

    -- the same by marks that tell it of themselves
    judging_tests : {order : List ℕ} → MarksTell (orthogonal n) S order marks r → Judging n r after order marks
    judging_tests t = record {
      some = some;
      most = small;
      members = held_numbered;
      places = t.places;
      tells = λ z. rw held_members t;
    }

  -- memory holds it
  pub plot_held : (x : Option ClosedFamily) → PlotListing n Fs before after marks x → closed_in n after x ≡ plot_family n Fs
  unfolding plot_family
  plot_held None (t, e) = sym t
  plot_held (Some c) (by_counts_holds (listed S is q h e t)) = ap family (held_members S is q h e) ∙ sym is
  plot_held (Some c) (by_tests S is q h e t) = ap family (held_members S is q h e) ∙ sym is

  -- the buffer is as the rules say
  pub plot_left : (x : Option ClosedFamily) → PlotListing n Fs before after marks x → after ≡ plot_buffer before (question8 n (plot_family n Fs))
  unfolding plot_family written
  plot_left None (t, e) = e ∙ ap (plot_buffer before) (sym (eight_over n (plot_family n Fs) t))
  plot_left (Some c) (by_counts_holds (listed S is q h e t)) = e ∙ sym (eight_buffer n (plot_family n Fs) S before is)
  plot_left (Some c) (by_tests S is q h e t) = e ∙ sym (eight_buffer n (plot_family n Fs) S before is)

  -- it is held with what the questions need
  pub plot_ready : (x : Option ClosedFamily) → PlotListing n Fs before after marks x → Ready n after marks x
  unfolding plot_family
  plot_ready None (t, e) = record { most = small; room = rw e room; judging = tt }
  plot_ready (Some c) (by_counts_holds (listed S is q h e t)) = let j = judging S is q h e t in record { most = small; room = j.members.room; judging = j }
  plot_ready (Some c) (by_tests S is q h e t) = let j = judging_tests S is q h e t in record { most = small; room = j.members.room; judging = j }

-- a family that is closed from the plot columns is listed by numbers of classes
pub plot_counted : (n : ℕ) (Fs : List Column) (before after marks : List ℕ) (x : Option ClosedFamily) → Listing n true (plot_generators n Fs) before after marks x → PlotListing n Fs before after marks x
unfolding plot_family
plot_counted n Fs before after marks None l = l
plot_counted n Fs before after marks (Some c) l = by_counts_holds l

-- ---- the plot family by the infima of its columns

module _ {n : ℕ} {Fs : List Column} (on : (F : Column) → F ∈ Fs → length F ≡ n) where
  -- supremum adds nothing to them
  pub plot_whole : {before after marks order : List ℕ} {r : ℕ} → length Fs ≤ 6 → (S : Family) → Distinct S → ((F : Column) → F ∈ S → F ∈ plot_infima n Fs) → r ≡ length S → Listed n false (plot_infima n Fs) before after marks order r → PlotListed n Fs before after marks order r
  plot_whole few S d only l (listed P is q h e t) = by_tests P (infima_whole n Fs on few S P d only is (sym q ∙ l)) q h e t

  -- it does: all that was found is closed under both operations
  module _ (Ms : List Column) (only : (F : Column) → F ∈ Ms → Made only_supremum (plot_infima n Fs) F) (given : (G : Column) → G ∈ plot_infima n Fs → G ∈ Ms) where
    same_closed : close both Ms ≡ plot_family n Fs
    same_closed = same_family n Fs Ms (λ F m. suprema_made n Fs on F (only F m)) (λ G m. given G (infima_given n Fs on G m))

    pub plot_grown : (before after marks : List ℕ) (x : Option ClosedFamily) → Listing n true Ms before after marks x → PlotListing n Fs before after marks x
    unfolding plot_family
    plot_grown before after marks None (c, e) = (sym same_closed ∙ c, e)
    plot_grown before after marks (Some c) (listed P is q h e t) = by_counts_holds (listed P (sym same_closed ∙ is) q h e t)
