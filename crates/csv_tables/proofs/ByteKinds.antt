-- What a byte is, by its number.
--   text-low, text-middle, text-high == bytes that are text
--   text-range, text-not == a byte of text is from 32 to 126, no quote and no comma; any other is no text
--   kind_of-text, kind_of-comma, kind_of-quote, kind_of-return, kind_of-feed, kind_of-other == the kind of a byte
--   Kinded b k, kind-is == what a byte's kind tells of it
use mathlib.Core.Path.{subst, ◌≡◌}
use mathlib.Core.Bool.{true, false, ◌&&◌, ◌||◌}
use Prim.Native.Nat.{ℕ, ◌≤◌}
use native.Mathlib.Omega.{arith}
use borrow.Author.Tests.{eqb-true, eq-eqb, ne_eqb}
use lib.Dec.{eqb, leb}
use Rattle.boxes.proofs.Tests.{by, either, or_cases, or_left, or_right}
use Rattle.fields.proofs.Laws.{between_is, between_in}
use Rattle.csv_tables.specs.Records.{comma, quote, carriage, feed, is_text, kind_of}
use Rattle.csv_tables.specs.declared.field.Kind.{Kind}
use Rattle.csv_tables.specs.declared.field.Kind.TheVariants.{Text, Comma, Quote, Return, Feed, Other}

module _ (b : ℕ) where
  pub text-low : 32 ≤ b → b ≤ 33 → is_text b ≡ true
  unfolding is_text
  text-low h k = or_left _ (between_is 32 33 b h k)

  pub text-middle : 35 ≤ b → b ≤ 43 → is_text b ≡ true
  unfolding is_text
  text-middle h k = or_right (leb 32 b && leb b 33) (or_left _ (between_is 35 43 b h k))

  pub text-high : 45 ≤ b → b ≤ 126 → is_text b ≡ true
  unfolding is_text
  text-high h k = or_right (leb 32 b && leb b 33) (or_right (leb 35 b && leb b 43) (between_is 45 126 b h k))

  pub text-range : is_text b ≡ true → (32 ≤ b) × (b ≤ 126) × (b ≡ quote → ⊥) × (b ≡ comma → ⊥)
  unfolding is_text
  text-range t =
      either (or_cases (leb 32 b && leb b 33) ((leb 35 b && leb b 43) || (leb 45 b && leb b 126)) t)
      (λ l. let r = between_in 32 33 b l in (r.0, omega (arith, r.1), (λ e. omega (arith, r.1)), λ e. omega (arith, r.1)))
      (λ m. either (or_cases (leb 35 b && leb b 43) (leb 45 b && leb b 126) m)
      (λ l. let r = between_in 35 43 b l in (omega (arith, r.0), omega (arith, r.1), (λ e. omega (arith, r.0)), λ e. omega (arith, r.1)))
      (λ l. let r = between_in 45 126 b l in (omega (arith, r.0), r.1, (λ e. omega (arith, r.0)), λ e. omega (arith, r.0))))

  pub text-not : ((32 ≤ b) × (b ≤ 126) × (b ≡ quote → ⊥) × (b ≡ comma → ⊥) → ⊥) → is_text b ≡ false
  text-not n = by (is_text b) (λ t. absurd (n (text-range t))) (λ e. e)

  pub kind_of-text : is_text b ≡ true → kind_of b ≡ Text
  unfolding kind_of
  kind_of-text t = rw t

  pub kind_of-comma : b ≡ comma → kind_of b ≡ Comma
  unfolding kind_of
  kind_of-comma e = rw (text-not (λ r. r.3 e), eq-eqb b comma e)

  pub kind_of-quote : b ≡ quote → kind_of b ≡ Quote
  unfolding kind_of
  kind_of-quote e = rw (text-not (λ r. r.2 e), ne_eqb b comma (λ i. omega arith), eq-eqb b quote e)

  pub kind_of-return : b ≡ carriage → kind_of b ≡ Return
  unfolding kind_of
  kind_of-return e = rw (text-not (λ r. omega (arith, r.0)), ne_eqb b comma (λ i. omega arith), ne_eqb b quote (λ i. omega arith), eq-eqb b carriage e)

  pub kind_of-feed : b ≡ feed → kind_of b ≡ Feed
  unfolding kind_of
  kind_of-feed e =
      rw (text-not (λ r. omega (arith, r.0)), ne_eqb b comma (λ i. omega arith), ne_eqb b quote (λ i. omega arith), ne_eqb b carriage (λ i. omega arith), eq-eqb b feed e)

  pub kind_of-other : (32 ≤ b → b ≤ 126 → ⊥) → (b ≡ carriage → ⊥) → (b ≡ feed → ⊥) → kind_of b ≡ Other
  unfolding kind_of
  kind_of-other n c f =
      rw (text-not (λ r. n r.0 r.1), ne_eqb b comma (λ i. n (omega arith) (omega arith)), ne_eqb b quote (λ i. n (omega arith) (omega arith)), ne_eqb b carriage c, ne_eqb b feed f)

-- ---- what a kind tells of a byte

abbrev pub Kinded : ℕ → Kind → Type 0
Kinded b Text = is_text b ≡ true
Kinded b Comma = b ≡ comma
Kinded b Quote = b ≡ quote
Kinded b Return = b ≡ carriage
Kinded b Feed = b ≡ feed
Kinded b Other = ℕ

pub kind-is : (b : ℕ) → Kinded b (kind_of b)
unfolding kind_of
kind-is b =
    by (is_text b) (λ t. rw t t) (λ f.
    by (eqb b comma) (λ t. rw (f, t) (eqb-true b comma t)) (λ g.
    by (eqb b quote) (λ t. rw (f, g, t) (eqb-true b quote t)) (λ h.
    by (eqb b carriage) (λ t. rw (f, g, h, t) (eqb-true b carriage t)) (λ i.
    by (eqb b feed) (λ t. rw (f, g, h, i, t) (eqb-true b feed t)) (λ j. rw (f, g, h, i, j) 0)))))

pub text-true : (b : ℕ) → kind_of b ≡ Text → is_text b ≡ true
text-true b e = subst (Kinded b) e (kind-is b)

pub text-false : (b : ℕ) → (kind_of b ≡ Text → ⊥) → is_text b ≡ false
text-false b n = by (is_text b) (λ t. absurd (n (kind_of-text b t))) (λ f. f)
