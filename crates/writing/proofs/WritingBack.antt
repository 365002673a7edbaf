-- The records of stages, one record more. Assumes nothing.
use mathlib.Core.Path.{◌≡◌, refl, sym, ap, ◌∙◌}
use mathlib.Core.List.{List, [], ◌∷◌, ◌++◌, append_assoc, append-nil}
use Prim.Native.Nat.{ℕ, ◌+◌, ◌≤◌, ◌<◌}
use native.Mathlib.Numerals.{add-one}
use native.Mathlib.Omega.{arith}
use lib.ListN.{length, take, drop, get_or, length-append, take-append-drop}
use lib.Seq.{take-suc}
use Rattle.stage.specs.declared.Stage.{Stage}
use Rattle.stage.specs.Places.{no_stage}
use Rattle.recipe.specs.declared.Record.{Record}
use Rattle.recipe.specs.Records.{record_bytes}
use Rattle.recipe.specs.laws.Records.{record_size, few_record_fields}
use Rattle.writing.specs.WritingBack.{record_of_stage, recipe_of}

-- ---- laws: one record more
pub recipe-append : (a b : List Stage) → recipe_of (a ++ b) ≡ recipe_of a ++ recipe_of b
unfolding recipe_of
recipe-append [] b = refl
recipe-append (s ∷ a) b = ap (λ (l : List ℕ). record_bytes (record_of_stage s.kind) ++ l) (recipe-append a b) ∙ sym (append_assoc (record_bytes (record_of_stage s.kind)) (recipe_of a) (recipe_of b))

pub recipe_next : (l : List Stage) (i : ℕ) → i < length l → recipe_of (take (i + 1) l) ≡ recipe_of (take i l) ++ record_bytes (record_of_stage (get_or l i no_stage).kind)
unfolding recipe_of
recipe_next l i h =
    ap (λ (n : ℕ). recipe_of (take n l)) (add-one i) ∙ ap recipe_of (take-suc l i no_stage h) ∙ recipe-append (take i l) (get_or l i no_stage ∷ [])
    ∙ ap (λ (x : List ℕ). recipe_of (take i l) ++ x) (append-nil (record_bytes (record_of_stage (get_or l i no_stage).kind)))

pub size_next : (l : List Stage) (i : ℕ) → i < length l → length (recipe_of (take (i + 1) l)) ≡ length (recipe_of (take i l)) + length (record_bytes (record_of_stage (get_or l i no_stage).kind))
size_next l i h = ap length (recipe_next l i h) ∙ length-append (recipe_of (take i l)) _

-- stage i's record ends within the whole
pub next_within : (l : List Stage) (i : ℕ) → i < length l → length (recipe_of (take i l)) + length (record_bytes (record_of_stage (get_or l i no_stage).kind)) ≤ length (recipe_of l)
next_within l i h =
    let e : recipe_of l ≡ recipe_of (take (i + 1) l) ++ recipe_of (drop (i + 1) l) = sym (ap recipe_of (take-append-drop (i + 1) l)) ∙ recipe-append (take (i + 1) l) (drop (i + 1) l) in
    omega (arith, ap length e, length-append (recipe_of (take (i + 1) l)) (recipe_of (drop (i + 1) l)), size_next l i h)

-- a record has at most 28 bytes
pub record_small : (r : Record) → length (record_bytes r) ≤ 28
record_small r = omega (arith, record_size r, few_record_fields r)
