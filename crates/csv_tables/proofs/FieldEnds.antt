-- A field read byte by byte: text, quotes, and what follows a field.
--   quote-within, feed-within == past the end stands no quote, and no line feed
--   TextOpen s from to == from a place on a field without quotes is read up to another
--   text-open-start, text-open-more, text-ends == a field without quotes: at its first byte, with one byte more, at its end
--   after-file, after-comma, after_line, after-other, after-return == what follows a field: the file's end, a comma, CR LF; something else, or a lone CR
--   QuotedOpen s from at doubled == the same of a field in quotes, and whether a doubled quote was met in it
--   quoted-more, quoted-doubled == a field in quotes: with one byte more, with a doubled quote
--   quoted-close, quoted-broken, quoted-other, quoted-unclosed == it is closed, and what follows is within the grammar or not; a byte outside the grammar; the
--                            file's end
--   text-field, text-broken, quoted-field == a field that begins with no quote, or with one
use mathlib.Core.Path.{◌≡◌, refl, sym, ap, subst, ◌∙◌}
use mathlib.Core.Logic.{◌⊎◌, inl, inr}
use mathlib.Core.Bool.{Bool, true, false}
use mathlib.Core.List.Memᴰ
use mathlib.Core.List.{List, [], ◌∷◌, ◌++◌, Memᴰ}
use Prim.Native.Nat.{ℕ, zero, suc, ◌+◌, ◌≤◌, ◌<◌}
use Rattle.std.proofs.Common.{add-zero}
use native.Mathlib.Omega.{arith}
use borrow.Author.Tests.{eqb-true, eq-eqb, ne_eqb, ltb-true, ltb-false}
use lib.Dec.{eqb, ltb}
use denote.Ref.{Bor}
use Rattle.std.specs.Prelude.{Option, None, Some}
use lib.ListN.{length, get_or, drop, length-drop, get_or-eq_default}
use lib.Seq.{get_or-drop}
use Rattle.std.specs.List.{prefix_len, take_while}
use Rattle.std.proofs.lemmas.List.Folds.{length-prefix_len}
use Rattle.std.proofs.lemmas.List.Sums.{prefix_len-le-length, prefix_len_passes, prefix_len_stops}
use Rattle.boxes.proofs.Tests.{by, either, clash}
use Rattle.fields.specs.Parts.{part}
use Rattle.fields.proofs.Laws.{part_none, part-more}
use Rattle.csv_tables.specs.Records.{comma, quote, carriage, feed, is_text, kind_of, Mode, start, plain, quoted, closing, ending, keep, stop, move, broken, next, records_from}
use Rattle.csv_tables.specs.Reading.{stands_at, is_quote_at, Onward, end_move, EndsAt, TextEnd, AfterSays, TextSays, FieldFrom, FieldSays}
use Rattle.csv_tables.specs.declared.field.Kind.{Kind}
use Rattle.csv_tables.specs.declared.field.Kind.TheVariants as kinds
use Rattle.csv_tables.specs.declared.field.After.{After}
use Rattle.csv_tables.specs.declared.field.After.TheVariants.{Comma, Line}
use Rattle.csv_tables.specs.declared.field.Field.{Field}
use Rattle.csv_tables.proofs.ByteKinds.{Kinded, kind-is, kind_of-text, kind_of-comma, kind_of-quote, kind_of-return, kind_of-feed}
use Rattle.csv_tables.proofs.Steps.{at-keep, at-skip, at_cut, at-stop, at-line, at-end, follow-end}

byte-within : (b : ℕ) (s : List ℕ) (at : ℕ) → 0 < b → stands_at b s at ≡ true → at < length s
byte-within b s at some e =
    by (ltb at (length s))
    (λ t. ltb-true at (length s) t)
    (λ f. absurd (omega (arith, eqb-true (get_or s at 0) b e, get_or-eq_default s 0 (ltb-false at (length s) f))))

pub quote-within : (s : List ℕ) (at : ℕ) → is_quote_at s at ≡ true → at < length s
quote-within s at e = byte-within quote s at (omega arith) e

pub feed-within : (s : List ℕ) (at : ℕ) → stands_at feed s at ≡ true → at < length s
feed-within s at e = byte-within feed s at (omega arith) e

-- ---- what follows a field

-- no comma and no CR ends a field
end-stops : (b : ℕ) → (b ≡ comma → ⊥) → (b ≡ carriage → ⊥) → end_move (kind_of b) ≡ stop
unfolding kind_of
end-stops b n m =
    by (is_text b) (λ t. rw t)
    (λ f. by (eqb b quote)
    (λ t. rw (f, ne_eqb b comma n, t))
    (λ g. by (eqb b feed)
    (λ t. rw (f, ne_eqb b comma n, g, ne_eqb b carriage m, t))
    (λ h. rw (f, ne_eqb b comma n, g, ne_eqb b carriage m, h))))

-- only LF ends a line
line-stops : (b : ℕ) → (b ≡ feed → ⊥) → move ending (kind_of b) ≡ stop
unfolding kind_of
line-stops b n =
    by (is_text b) (λ t. rw t)
    (λ f. by (eqb b comma)
    (λ t. rw (f, t))
    (λ g. by (eqb b quote)
    (λ t. rw (f, g, t))
    (λ h. by (eqb b carriage)
    (λ t. rw (f, g, h, t))
    (λ i. rw (f, g, h, i, ne_eqb b feed n)))))

module _ (s : List ℕ) (at : ℕ) where
  pub after-file : at ≡ length s → AfterSays s at (Some (Line at))
  after-file e = record {
    reads = λ m x fs f. at-end s m fs f at (omega arith) ∙ x.closes fs f ∙ ap (next (fs ++ (f ∷ []))) (sym (follow-end s at (omega arith)));
    onward = (omega arith, omega arith, λ h. omega arith);
  }

  module _ (h : at < length s) where
    pub after-comma : get_or s at 0 ≡ comma → AfterSays s at (Some (Comma (at + 1)))
    after-comma e = record {
      reads = λ m x fs f. at_cut s m fs f at h (x.moves h ∙ ap end_move (kind_of-comma (get_or s at 0) e));
      onward = (omega arith, omega arith);
    }

    pub after-other : (get_or s at 0 ≡ comma → ⊥) → (get_or s at 0 ≡ carriage → ⊥) → AfterSays s at None
    after-other n k = record {
      reads = λ m x fs f. at-stop s m fs f at h (x.moves h ∙ end-stops (get_or s at 0) n k);
      onward = tt;
    }

    returned : get_or s at 0 ≡ carriage → (m : Mode) → EndsAt s at m → (fs : List (List ℕ)) (f : List ℕ) → records_from m fs f (drop at s) ≡ records_from ending fs f (drop (at + 1) s)
    returned e m x fs f = at-skip s m fs f at h ending (x.moves h ∙ ap end_move (kind_of-return (get_or s at 0) e))

    pub after-return : get_or s at 0 ≡ carriage → (at + 1 < length s → get_or s (at + 1) 0 ≡ feed → ⊥) → AfterSays s at None
    after-return e n = record {
      reads = λ m x fs f. returned e m x fs f ∙ by (ltb (at + 1) (length s))
          (λ t. let k : at + 1 < length s = ltb-true (at + 1) (length s) t in at-stop s ending fs f (at + 1) k (line-stops (get_or s (at + 1) 0) (n k)))
          (λ g. at-end s ending fs f (at + 1) (ltb-false (at + 1) (length s) g));
      onward = tt;
    }

    pub after_line : get_or s at 0 ≡ carriage → at + 1 < length s → get_or s (at + 1) 0 ≡ feed → AfterSays s at (Some (Line (at + 1 + 1)))
    after_line e k l = record {
      reads = λ m x fs f. returned e m x fs f ∙ at-line s ending fs f (at + 1) k (ap (move ending) (kind_of-feed (get_or s (at + 1) 0) l));
      onward = (omega arith, omega arith, λ i. omega arith);
    }

onward-from : (s : List ℕ) {at to : ℕ} (x : Option After) → at ≤ to → to ≤ length s → Onward to s x → Onward at s x
onward-from s (Some (Comma n)) h k o = (omega (arith, o.0), o.1)
onward-from s {at} {to} (Some (Line n)) h k o = (omega (arith, o.0), o.1, λ l. by (ltb to (length s)) (λ t. omega (arith, o.2 (ltb-true to (length s) t))) (λ f. omega (arith, ltb-false to (length s) f, o.0)))
onward-from s None h k o = tt

-- ---- a field without quotes

pub record TextOpen (s : List ℕ) (from to : ℕ) : Type 0 where
  pub mode : Mode
  pub after : from ≤ to
  pub within : to ≤ length s
  pub reads : (fs : List (List ℕ)) → records_from start fs [] (drop from s) ≡ records_from mode fs (part from to s) (drop to s)
  pub begun : ((mode ≡ start) × (to ≡ from)) ⊎ (mode ≡ plain)

text-open-start : {s : List ℕ} {from : ℕ} → from ≤ length s → TextOpen s from from
text-open-start {s} {from} h = record {
  mode = start;
  after = omega arith;
  within = h;
  reads = λ fs. rw (part_none from s);
  begun = inl (refl, refl);
}

text-keeps : (m : Mode) → ((m ≡ start) ⊎ (m ≡ plain)) → move m kinds.Text ≡ keep plain
text-keeps m (inl e) = rw e
text-keeps m (inr e) = rw e

text-open-more : {s : List ℕ} {from to : ℕ} → TextOpen s from to → to < length s → is_text (get_or s to 0) ≡ true → TextOpen s from (to + 1)
text-open-more {s} {from} {to} o h e =
    let m : Mode = o.mode in
    let keeps : move m (kind_of (get_or s to 0)) ≡ keep plain = ap (move m) (kind_of-text (get_or s to 0) e) ∙ text-keeps m (either o.begun (λ b. inl b.0) (λ b. inr b)) in
    record {
      mode = plain;
      after = omega (arith, o.after);
      within = omega arith;
      reads = λ fs. o.reads fs ∙ at-keep s m fs (part from to s) to h plain keeps
          ∙ ap (λ (l : List ℕ). records_from plain fs l (drop (to + 1) s)) (sym (part-more from to s o.after h));
      begun = inr refl;
    }

-- some bytes that are text
text-run : {s : List ℕ} {from : ℕ} → from ≤ length s → (i : ℕ) → from + i ≤ length s → ((k : ℕ) → k < i → is_text (get_or (drop from s) k 0) ≡ true) → TextOpen s from (from + i)
text-run h zero l texts = rw add-zero (text-open-start h)
text-run {s} {from} h (suc i) l texts =
    let next : from + suc i ≡ from + i + 1 = omega arith in
    rw next (text-open-more (text-run h i (omega arith) (λ k b. texts k (omega arith))) (omega arith) (sym (ap is_text (get_or-drop from s i 0)) ∙ texts i (omega arith)))

start-ends : (k : Kind) → (k ≡ kinds.Text → ⊥) → (k ≡ kinds.Quote → ⊥) → move start k ≡ end_move k
start-ends kinds.Text n q = absurd (n refl)
start-ends kinds.Comma n q = refl
start-ends kinds.Quote n q = absurd (q refl)
start-ends kinds.Return n q = refl
start-ends kinds.Feed n q = refl
start-ends kinds.Other n q = refl

plain-ends : (k : Kind) → (k ≡ kinds.Text → ⊥) → move plain k ≡ end_move k
plain-ends kinds.Text n = absurd (n refl)
plain-ends kinds.Comma n = refl
plain-ends kinds.Quote n = refl
plain-ends kinds.Return n = refl
plain-ends kinds.Feed n = refl
plain-ends kinds.Other n = refl

closing-ends : (k : Kind) → (k ≡ kinds.Quote → ⊥) → move closing k ≡ end_move k
closing-ends kinds.Text n = refl
closing-ends kinds.Comma n = refl
closing-ends kinds.Quote n = absurd (n refl)
closing-ends kinds.Return n = refl
closing-ends kinds.Feed n = refl
closing-ends kinds.Other n = refl

-- a byte whose kind is Quote is the quote
quote-is : (b : ℕ) → kind_of b ≡ kinds.Quote → b ≡ quote
quote-is b e = subst (Kinded b) e (kind-is b)

text-stop : {s : List ℕ} {from to : ℕ} → TextOpen s from to → is_quote_at s from ≡ false → (to < length s → is_text (get_or s to 0) ≡ true → ⊥) → TextEnd s from to
text-stop {s} {from} {to} o q n = record {
  mode = o.mode;
  after = o.after;
  within = o.within;
  reads = o.reads;
  ends = either o.begun
      (λ b. rw b.0 (record { closes = λ fs f. refl; moves = λ h. start-ends (kind_of (get_or s to 0)) (other h) (λ e. clash (eq-eqb (get_or s to 0) quote (quote-is (get_or s to 0) e)) (rw b.1 q)) }))
      (λ b. rw b (record { closes = λ fs f. refl; moves = λ h. plain-ends (kind_of (get_or s to 0)) (other h) }));
}
  where
    other : to < length s → kind_of (get_or s to 0) ≡ kinds.Text → ⊥
    other h e = n h (subst (Kinded (get_or s to 0)) e (kind-is (get_or s to 0)))

-- as far as the bytes are text
pub text-ends : {s : List ℕ} {from : ℕ} → from ≤ length s → is_quote_at s from ≡ false → (r : ℕ) → r ≡ length (take_while is_text (drop from s)) → TextEnd s from (from + r)
text-ends {s} {from} h q r e =
    let rest : List ℕ = drop from s in
    let is : r ≡ prefix_len is_text rest = e ∙ length-prefix_len is_text rest in
    let l : from + r ≤ length s = omega (arith, prefix_len-le-length is_text rest, length-drop from s) in
    text-stop (text-run h r l (λ k b. prefix_len_passes is_text rest k 0 (omega arith))) q
    (λ b t. clash t (ap (λ (n : ℕ). is_text (get_or s (from + n) 0)) is ∙ ap is_text (sym (get_or-drop from s (prefix_len is_text rest) 0)) ∙ prefix_len_stops is_text rest 0 (omega (arith, length-drop from s))))

pub text-field : {s : List ℕ} {at to : ℕ} {x : After} → TextEnd s at to → AfterSays s to (Some x) → (t : Bor (List ℕ)) → t.now ≡ part at to s
    → FieldFrom start s at (record { text = Some t; after = x })
text-field {s} {at} {to} {x} t a z e = record {
  bytes = part at to s;
  text = e;
  reads = λ fs. t.reads fs ∙ a.reads t.mode t.ends fs (part at to s);
  onward = onward-from s (Some x) t.after t.within a.onward;
}

pub text-broken : {s : List ℕ} {at to : ℕ} → TextEnd s at to → AfterSays s to None → (fs : List (List ℕ)) → records_from start fs [] (drop at s) ≡ broken
text-broken {s} {at} {to} t a fs = t.reads fs ∙ a.reads t.mode t.ends fs (part at to s)

-- ---- a field in quotes

pub record QuotedOpen (s : List ℕ) (from at : ℕ) (doubled : Bool) : Type 0 where
  pub bytes : List ℕ
  pub after : from ≤ at
  pub within : at ≤ length s
  pub plain : doubled ≡ false → bytes ≡ part from at s
  pub quoted : doubled ≡ true → Memᴰ quote bytes
  pub reads : (fs : List (List ℕ)) → records_from Rattle.csv_tables.specs.Records.quoted fs [] (drop from s) ≡ records_from Rattle.csv_tables.specs.Records.quoted fs bytes (drop at s)

quoted-keeps : (k : Kind) → (k ≡ kinds.Other → ⊥) → (k ≡ kinds.Quote → ⊥) → move quoted k ≡ keep quoted
quoted-keeps kinds.Text n q = refl
quoted-keeps kinds.Comma n q = refl
quoted-keeps kinds.Quote n q = absurd (q refl)
quoted-keeps kinds.Return n q = refl
quoted-keeps kinds.Feed n q = refl
quoted-keeps kinds.Other n q = absurd (n refl)

module _ {s : List ℕ} {from at : ℕ} {d : Bool} (o : QuotedOpen s from at d) where
  pub quoted-unclosed : length s ≤ at → FieldSays quoted s from None
  quoted-unclosed h = λ fs. o.reads fs ∙ at-end s quoted fs o.bytes at h

  module _ (h : at < length s) where
    pub quoted-other : kind_of (get_or s at 0) ≡ kinds.Other → FieldSays quoted s from None
    quoted-other e = λ fs. o.reads fs ∙ at-stop s quoted fs o.bytes at h (ap (move quoted) e)

    pub quoted-more : (kind_of (get_or s at 0) ≡ kinds.Other → ⊥) → (kind_of (get_or s at 0) ≡ kinds.Quote → ⊥) → QuotedOpen s from (at + 1) d
    quoted-more n q = record {
      bytes = o.bytes ++ (get_or s at 0 ∷ []);
      after = omega (arith, o.after);
      within = omega arith;
      plain = λ e. ap (λ (l : List ℕ). l ++ (get_or s at 0 ∷ [])) (o.plain e) ∙ sym (part-more from at s o.after h);
      quoted = λ e. Memᴰ.append_left (get_or s at 0 ∷ []) (o.quoted e);
      reads = λ fs. o.reads fs ∙ at-keep s quoted fs o.bytes at h quoted (quoted-keeps (kind_of (get_or s at 0)) n q);
    }

    module _ (e : kind_of (get_or s at 0) ≡ kinds.Quote) where
      closes : (fs : List (List ℕ)) → records_from quoted fs [] (drop from s) ≡ records_from closing fs o.bytes (drop (at + 1) s)
      closes fs = o.reads fs ∙ at-skip s quoted fs o.bytes at h closing (ap (move quoted) e)

      pub quoted-doubled : is_quote_at s (at + 1) ≡ true → QuotedOpen s from (at + 1 + 1) true
      quoted-doubled q =
          let k : at + 1 < length s = quote-within s (at + 1) q in
          let is : get_or s (at + 1) 0 ≡ quote = eqb-true (get_or s (at + 1) 0) quote q in
          record {
            bytes = o.bytes ++ (get_or s (at + 1) 0 ∷ []);
            after = omega (arith, o.after);
            within = omega arith;
            plain = λ z. clash refl z;
            quoted = λ z. Memᴰ.append_right o.bytes (Memᴰ.head (sym is));
            reads = λ fs. closes fs ∙ at-keep s closing fs o.bytes (at + 1) k quoted (ap (move closing) (kind_of-quote (get_or s (at + 1) 0) is));
          }

      ends : is_quote_at s (at + 1) ≡ false → EndsAt s (at + 1) closing
      ends q = record {
        closes = λ fs f. refl;
        moves = λ k. closing-ends (kind_of (get_or s (at + 1) 0)) (λ z. clash (eq-eqb (get_or s (at + 1) 0) quote (quote-is (get_or s (at + 1) 0) z)) q);
      }

      pub quoted-close : {x : After} {t : Option (Bor (List ℕ))} → is_quote_at s (at + 1) ≡ false → AfterSays s (at + 1) (Some x) → TextSays t o.bytes
          → FieldFrom quoted s from (record { text = t; after = x })
      quoted-close {x} q a says = record {
        bytes = o.bytes;
        text = says;
        reads = λ fs. closes fs ∙ a.reads closing (ends q) fs o.bytes;
        onward = onward-from s (Some x) (omega (arith, o.after)) (omega arith) a.onward;
      }

      pub quoted-broken : is_quote_at s (at + 1) ≡ false → AfterSays s (at + 1) None → FieldSays quoted s from None
      quoted-broken q a = λ fs. closes fs ∙ a.reads closing (ends q) fs o.bytes

-- the opening quote
module _ (s : List ℕ) (at : ℕ) (q : is_quote_at s at ≡ true) where
  opens : (fs : List (List ℕ)) → records_from start fs [] (drop at s) ≡ records_from quoted fs [] (drop (at + 1) s)
  opens fs = at-skip s start fs [] at (quote-within s at q) quoted (ap (move start) (kind_of-quote (get_or s at 0) (eqb-true (get_or s at 0) quote q)))

  pub quoted-field : (x : Option Field) → FieldSays quoted s (at + 1) x → FieldSays start s at x
  quoted-field None r = λ fs. opens fs ∙ r fs
  quoted-field (Some x) r = record {
    bytes = r.bytes;
    text = r.text;
    reads = λ fs. opens fs ∙ r.reads fs;
    onward = onward-from s (Some x.after) (omega arith) (quote-ends) r.onward;
  }
    where
      quote-ends : at + 1 ≤ length s
      quote-ends = omega (arith, quote-within s at q)
