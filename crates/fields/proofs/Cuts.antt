-- The fields of a line, as a chain of iterators gives them.
--   split-cut        == the parts are what std says that `split` gives
--   Cutting steps s fs all == a loop over it took the fields fs so far, of all
--   cut_start, cut_at, cut_next, cut_more, cut_wrong, cut_end == it takes none; one more of all; and that is not the last of those taken; it fails a test; all
--   same-pointwise   == two fields are the same by what std says of `==`
--   all-same, same-long == they are the same byte by byte; not where one is longer
--   every-list_all   == each passes by what std says of `all`
--   place-position   == the place is what std says of `position`
use Rattle.std.proofs.Common.{subst, ◌≡◌, refl, sym, ap, ◌∙◌, Bool, false, ◌&&◌, List, [], ◌∷◌, ◌++◌, ℕ, suc, ◌≤◌, ◌<◌, eqb, ltb, length, cond, arith, one-add, append-nil, Option, Some, None, Bor, length-append}
use Rattle.std.specs.Iterator.{AlwaysYields}
use Rattle.std.specs.List.{slice_split, onto_first, list_all, position_or_len, zip}
use Rattle.std.proofs.lemmas.Iterator.{YieldsList}
use Rattle.std.proofs.lemmas.List.Splits.{length-slice_split}
use Rattle.std.proofs.lemmas.Iterator.Splits.{YieldsList-from_slice_split}
use Rattle.std.specs.Slice.Iter.{split_rest, split_done, split_callee, split_steps}
use Rattle.std.specs.Fn.{CalledAt}
use Rattle.std.specs.declared.slice.Split.{Split}
use denote.Param.Members.{Mut}
use lib.Pointwise.{pointwise}
use lib.Seq.{append_snoc}
use Rattle.boxes.specs.Every.{every}
use mathlib.Core.Bool.{and-false}
use Rattle.boxes.proofs.Every.{every_append, pairs-all}
use Rattle.boxes.proofs.Tests.{by}
use Rattle.questions.specs.Orders.{same}
use Rattle.questions.proofs.Laws.{same-is}
use Rattle.fields.specs.Fields.{space, split_from, split, fields_of, place, is_one}
use Rattle.fields.specs.Lines.{place_in}

-- the parts behind what was read of the first one
abbrev ahead : List ℕ → List (List ℕ) → List (List ℕ)
ahead f [] = []
ahead f (p ∷ ps) = (f ++ p) ∷ ps

ahead-none : (ps : List (List ℕ)) → ahead [] ps ≡ ps
ahead-none [] = refl
ahead-none (p ∷ ps) = refl

ahead-more : (f : List ℕ) (b : ℕ) (ps : List (List ℕ)) → 1 ≤ length ps → ahead (f ++ (b ∷ [])) ps ≡ ahead f (onto_first b ps)
ahead-more f b [] h = absurd (omega arith)
ahead-more f b (p ∷ ps) h = ap (λ (x : List ℕ). x ∷ ps) (append_snoc f b p)

module _ (c : ℕ) where
  abbrev cut : List ℕ → List (List ℕ)
  cut s = slice_split (λ b. eqb b c) s

  split_from-cut : (f s : List ℕ) → split_from c f s ≡ ahead f (cut s)
  unfolding split_from
  split_from-cut f [] = ap (λ (x : List ℕ). x ∷ []) (sym (append-nil f))
  split_from-cut f (b ∷ s) =
      by (eqb b c)
      (λ t. rw t (ap (λ (ps : List (List ℕ)). f ∷ ps) (split_from-cut [] s ∙ ahead-none (cut s)) ∙ ap (λ (x : List ℕ). x ∷ cut s) (sym (append-nil f))))
      (λ e. rw e (split_from-cut (f ++ (b ∷ [])) s ∙ ahead-more f b (cut s) (omega (arith, length-slice_split (λ a. eqb a c) s))))

  pub split-cut : (s : List ℕ) → cut s ≡ split c s
  split-cut s = sym (split_from-cut [] s ∙ ahead-none (cut s))

pub same-pointwise : (f g : List ℕ) → pointwise eqb f g ≡ same f g
unfolding same
same-pointwise [] [] = refl
same-pointwise [] (y ∷ g) = refl
same-pointwise (x ∷ f) [] = refl
same-pointwise (x ∷ f) (y ∷ g) = ap (λ (b : Bool). eqb x y && b) (same-pointwise f g)

pub every-list_all : {A : Type 0} (p : A → Bool) (xs : List A) → list_all p xs ≡ every p xs
unfolding every
every-list_all p [] = refl
every-list_all p (x ∷ xs) = ap (λ (b : Bool). p x && b) (every-list_all p xs)

every-first : {A : Type 0} (p : A → Bool) (x : A) (xs : List A) → p x ≡ false → every p (x ∷ xs) ≡ false
unfolding every
every-first p x xs e = rw e

-- two fields, byte by byte
pub all-same : (f g : List ℕ) → length f ≡ length g → list_all (λ z. eqb z.0 z.1) (zip f g) ≡ same f g
all-same f g e = pairs-all eqb f g e ∙ same-pointwise f g

pub same-long : (f g : List ℕ) → (length f ≡ length g → ⊥) → false ≡ same f g
same-long f g n = by (same f g) (λ t. absurd (n (ap length (same-is f g t)))) (λ e. sym e)

pub place-position : (f : List ℕ) (gs : List (List ℕ)) → position_or_len (same f) gs ≡ place f gs
unfolding place
place-position f [] = refl
place-position f (g ∷ gs) = by (same f g) (λ t. rw t refl) (λ e. rw e (one-add (position_or_len (same f) gs) ∙ ap suc (place-position f gs)))

-- what `position` answers at the fields of a line
pub place_cut : (f l : List ℕ) → let n = position_or_len (same f) (cut space l) in cond (ltb n (length (cut space l))) (Some n) None ≡ place_in (fields_of l) f
place_cut f l =
    rw (split-cut space l, place-position f (fields_of l)) (by (is_one (fields_of l) f) (λ t. rw t refl) (λ e. rw e refl))

-- the iterator over a line's fields, by what its call ensures
module _ {F : Type 0} {s : Split ℕ F} {f : F} (g : Mut F (Bor ℕ × Unit {0}) Bool) where
  pub fields_cut : (l : List ℕ) → split_rest s ≡ l → split_done s ≡ false → split_callee s ≡ f
      → ((x : ℕ) (b : Bool) (q : F) → CalledAt g f x b q → (q ≡ f) × (b ≡ eqb x space)) → YieldsList (split_steps g) (λ x. x.now) s (fields_of l)
  fields_cut l rest done closure tests = subst (YieldsList (split_steps g) (λ x. x.now) s) (split-cut space l) (YieldsList-from_slice_split g (λ b. eqb b space) l rest done closure tests)

-- ---- a loop over the fields of a line

pub record Cutting {S A B : Type 0} (steps : S → Option A → S → Type 0) (v : A → B) (s : S) (done all : List B) : Type 0 where
  pub left : List B
  pub is : all ≡ done ++ left
  pub yields : YieldsList steps v s left

module _ {S A B : Type 0} {steps : S → Option A → S → Type 0} {v : A → B} where
  pub cut_start : {s : S} {all : List B} → YieldsList steps v s all → Cutting steps v s [] all
  cut_start {s} {all} y = record { left = all; is = refl; yields = y }

  module _ {s : S} {done all : List B} (c : Cutting steps v s done all) where
    pub cut_few : length done ≤ length all
    cut_few = omega (arith, ap length c.is, length-append done c.left)

    -- the next item is the first of those that are left
    module _ {t : S} {x : A} {r : Option A} (e : r ≡ Some x) (h : steps s r t) where
      pub cut_step : (rest : List B) × (c.left ≡ v x ∷ rest) × YieldsList steps v t rest
      cut_step = step c.left c.yields.runs
        where
          step : (left : List B) → AlwaysYields steps v s left → (rest : List B) × (left ≡ v x ∷ rest) × YieldsList steps v t rest
          step [] y = absurd (y x t (subst (λ (q : Option A). steps s q t) e h))
          step (y ∷ ys) m = let n = m.1 x t (subst (λ (q : Option A). steps s q t) e h) in (ys, ap (λ (z : B). z ∷ ys) (sym n.0), record { runs = n.1 })

      pub cut_at : all ≡ done ++ (v x ∷ cut_step.0)
      cut_at = c.is ∙ ap (λ (l : List B). done ++ l) cut_step.1

      pub cut_next : length done < length all
      cut_next = omega (arith, ap length cut_at, length-append done (v x ∷ cut_step.0))

      pub cut_more : Cutting steps v t (done ++ (v x ∷ [])) all
      cut_more = record { left = cut_step.0; is = cut_at ∙ sym (append_snoc done (v x) cut_step.0); yields = cut_step.2 }

      pub cut_wrong : (p : B → Bool) → p (v x) ≡ false → every p all ≡ false
      cut_wrong p f = ap (every p) cut_at ∙ every_append p done (v x ∷ cut_step.0) ∙ rw (every-first p (v x) cut_step.0 f) (and-false (every p done))

    pub cut_end : {t : S} {r : Option A} → r ≡ None → steps s r t → all ≡ done
    cut_end {t} {r} f h = over c.left c.is c.yields.runs
      where
        over : (left : List B) → all ≡ done ++ left → AlwaysYields steps v s left → all ≡ done
        over [] e m = e ∙ append-nil done
        over (y ∷ ys) e m = absurd (m.0 t (subst (λ (q : Option A). steps s q t) f h))
