-- Factors (003, section 2.1): columns, the order among factors, numbering, infimum, supremum, class sizes and orthogonality.
-- Plots are counted from 0. Assumes nothing.
use Rattle.std.specs.Prelude.{◌≡◌, Bool, true, false, not, ◌&&◌, ◌||◌, eqb, length, get_or, replicate}
use mathlib.Core.List.{List, [], ◌∷◌}
use Prim.Native.Nat.{ℕ, zero, suc, ◌*◌, ◌<◌}

-- ---- columns

-- A factor is any division of the plots into classes. It is given by a column, one label a plot.
abbrev pub Column : Type 0
Column = List ℕ

-- the label of plot u
abbrev pub at : Column → ℕ → ℕ
at F u = get_or F u 0

-- "plots share a class when they share a level": a class is named by any of its plots
abbrev pub Same : Column → ℕ → ℕ → Type 0
Same F u v = at F u ≡ at F v

abbrev pub same : Column → ℕ → ℕ → Bool
same F u v = eqb (at F u) (at F v)

-- ---- tests and counts over the plots 0 to n − 1

unfoldable pub every : ℕ → (ℕ → Bool) → Bool
every zero p = true
every (suc k) p = elim (p k) [ true ↦ every k p | false ↦ false ]

unfoldable pub count : ℕ → (ℕ → Bool) → ℕ
count zero p = zero
count (suc k) p = elim (p k) [ true ↦ suc (count k p) | false ↦ count k p ]

-- ---- the order among factors

-- "F is finer than or equivalent to G when plots sharing an F-class always share a G-class"
abbrev pub Finer : ℕ → Column → Column → Type 0
Finer n F G = (u v : ℕ) → u < n → v < n → Same F u v → Same G u v

unfoldable pub finer : ℕ → Column → Column → Bool
unfolding every
finer n F G = every n (λ u. every n (λ v. not (same F u v) || same G u v))

-- "F and G are equivalent when this holds both ways"
pub record Equivalent (n : ℕ) (F G : Column) : Type 0 where
  pub to : Finer n F G
  pub from : Finer n G F

-- G is strictly coarser than F
unfoldable pub coarser : ℕ → Column → Column → Bool
unfolding finer
coarser n F G = finer n F G && not (finer n G F)

-- ---- "numbered by first appearance from plot 1: the first plot has 1, and a new class takes the next number"

module _ {A : Type 0} (alike : A → A → Bool) where
  -- where x first stands in the list, from 0; the list's length where it does not
  unfoldable pub index_of : List A → A → ℕ
  index_of [] x = zero
  index_of (y ∷ s) x = elim (alike y x) [ true ↦ zero | false ↦ suc (index_of s x) ]

  -- the list with x at its end, unless it stands there already
  unfoldable pub add_new : List A → A → List A
  add_new [] x = x ∷ []
  add_new (y ∷ s) x = elim (alike y x) [ true ↦ y ∷ s | false ↦ y ∷ add_new s x ]

  -- s holds the labels seen so far: a label's number is its place there, from 1
  unfoldable pub numbering : List A → List A → Column
  unfolding index_of add_new
  numbering s [] = []
  numbering s (x ∷ xs) = suc (index_of s x) ∷ numbering (add_new s x) xs

  -- the different labels, by first appearance
  unfoldable pub labels : List A → List A → List A
  unfolding add_new
  labels s [] = s
  labels s (x ∷ xs) = labels (add_new s x) xs

unfoldable pub number : Column → Column
unfolding numbering
number F = numbering eqb [] F

-- how many classes a column has
unfoldable pub classes : Column → ℕ
unfolding labels
classes F = length (labels eqb [] F)

-- ---- infimum

abbrev pub Pair : Type 0
Pair = ℕ × ℕ

abbrev pub alike_pair : Pair → Pair → Bool
alike_pair p q = eqb p.0 q.0 && eqb p.1 q.1

-- the two labels of each plot
unfoldable pub pairs : Column → Column → List Pair
pairs [] G = []
pairs (x ∷ F) [] = []
pairs (x ∷ F) (y ∷ G) = (x, y) ∷ pairs F G

-- "In the infimum two plots share a class exactly when they do in both factors."
unfoldable pub infimum : Column → Column → Column
unfolding numbering pairs
infimum F G = numbering alike_pair [] (pairs F G)

-- ---- supremum

-- the plots labelled a get the label b
unfoldable pub relabel : ℕ → ℕ → Column → Column
relabel a b [] = []
relabel a b (x ∷ L) = elim (eqb x a) [ true ↦ b ∷ relabel a b L | false ↦ x ∷ relabel a b L ]

-- F with each of the first k plots joined to the first plot of its G-class
unfoldable pub joined : Column → Column → ℕ → Column
unfolding relabel index_of
joined F G zero = F
joined F G (suc k) = relabel (at (joined F G k) k) (at (joined F G k) (index_of eqb G (at G k))) (joined F G k)

-- "In the supremum they share one exactly when a chain of plots joins them": supremum-chain in proofs/Supremum
unfoldable pub supremum : Column → Column → Column
unfolding number joined
supremum F G = number (joined F G (length F))

-- A chain of plots from u, "each step within an F-class or a G-class".
pub data Chain (n : ℕ) (F G : Column) (u : ℕ) : ℕ → Type 0 where
  start : Chain n F G u u
  along_f : {w v : ℕ} → Chain n F G u w → v < n → Same F w v → Chain n F G u v
  along_g : {w v : ℕ} → Chain n F G u w → v < n → Same G w v → Chain n F G u v

-- ---- "U, the universal factor, has one class; E, the equality factor, has N"

unfoldable pub universal : ℕ → Column
universal n = replicate n 1

unfoldable pub up_from : ℕ → ℕ → Column
up_from i zero = []
up_from i (suc n) = i ∷ up_from (suc i) n

unfoldable pub equality : ℕ → Column
unfolding up_from
equality n = up_from 1 n

-- ---- class sizes and orthogonality

-- the size of the F-class of plot u
unfoldable pub class_size : ℕ → Column → ℕ → ℕ
unfolding count
class_size n F u = count n (λ v. same F u v)

-- the size of A ∩ B, for the F-class A of plot u and the G-class B of plot v
unfoldable pub overlap : ℕ → Column → ℕ → Column → ℕ → ℕ
unfolding count
overlap n F u G v = count n (λ w. same F u w && same G v w)

-- "classes of one size"
abbrev pub Uniform : ℕ → Column → Type 0
Uniform n F = (u v : ℕ) → u < n → v < n → class_size n F u ≡ class_size n F v

unfoldable pub uniform : ℕ → Column → Bool
unfolding every class_size
uniform n F = every n (λ u. eqb (class_size n F 0) (class_size n F u))

-- "for each class K of the supremum, and each F-class A and G-class B inside K, the size of A∩B × size of K = size of A × size of B"
abbrev pub Orthogonal : ℕ → Column → Column → Type 0
Orthogonal n F G = (u v : ℕ) → u < n → v < n → Same (supremum F G) u v
    → overlap n F u G v * class_size n (supremum F G) u ≡ class_size n F u * class_size n G v

unfoldable pub orthogonal_in : ℕ → Column → Column → Column → Bool
unfolding every class_size overlap
orthogonal_in n K F G = every n (λ u. every n (λ v. not (same K u v) || eqb (overlap n F u G v * class_size n K u) (class_size n F u * class_size n G v)))

unfoldable pub orthogonal : ℕ → Column → Column → Bool
unfolding orthogonal_in supremum
orthogonal n F G = orthogonal_in n (supremum F G) F G
