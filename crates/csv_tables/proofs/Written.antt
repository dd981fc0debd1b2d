-- What is written by the grammar is read.
--   Done m           == a field may end in this mode
--   field-lands      == a written field is read up to its end
--   record-reads     == a written record, up to its last field's end
--   file-reads       == a written file is read as its records
use mathlib.Core.Path.{◌≡◌, refl, sym, ap, ◌∙◌}
use mathlib.Core.Bool.{true, ◌||◌}
use mathlib.Core.List.{List, [], ◌∷◌, ◌++◌, append-nil, append_assoc}
use Prim.Native.Nat.{ℕ}
use borrow.Author.Tests.{eqb-true}
use lib.Dec.{eqb}
use lib.Seq.{append_snoc}
use Rattle.boxes.specs.Fits.{none, more}
use Rattle.boxes.proofs.Tests.{either, or_cases}
use Rattle.csv_tables.specs.Records.{comma, quote, carriage, feed, is_text, kind_of, Mode, start, plain, quoted, closing, ending, keep, skip, cut, move, Records, ended, next, records_from, records_of, follow, record_list}
use Rattle.csv_tables.specs.declared.field.Kind.TheVariants.{Comma, Return}
use Rattle.csv_tables.specs.Grammar.{is_quotable, InQuotes, empty, byte, doubled, FieldWritten, bare, escaped, RecordWritten, one, many, FileWritten, unended, line_ended, and_then}
use Rattle.csv_tables.proofs.ByteKinds.{kind_of-text, kind_of-comma, kind_of-quote, kind_of-return, kind_of-feed}
use Rattle.csv_tables.proofs.Lines.{from-keep, from-skip, from_cut, from-line, plain-read, follow-some, follow-none}

-- ---- a field

quotable-kept : (b : ℕ) → is_quotable b ≡ true → move quoted (kind_of b) ≡ keep quoted
unfolding is_quotable
quotable-kept b t =
    either (or_cases (is_text b) (eqb b comma || (eqb b carriage || eqb b feed)) t)
    (λ e. ap (move quoted) (kind_of-text b e))
    (λ u. either (or_cases (eqb b comma) (eqb b carriage || eqb b feed) u)
    (λ e. ap (move quoted) (kind_of-comma b (eqb-true b comma e)))
    (λ v. either (or_cases (eqb b carriage) (eqb b feed) v)
    (λ e. ap (move quoted) (kind_of-return b (eqb-true b carriage e)))
    (λ e. ap (move quoted) (kind_of-feed b (eqb-true b feed e)))))

quoted-read : (fs : List (List ℕ)) (g : List ℕ) {f w : List ℕ} (s : List ℕ) → InQuotes f w → records_from quoted fs g (w ++ (quote ∷ s)) ≡ records_from closing fs (g ++ f) s
quoted-read fs g s empty = from-skip quoted quote fs g s (ap (move quoted) (kind_of-quote quote refl)) ∙ ap (λ (l : List ℕ). records_from closing fs l s) (sym (append-nil g))
quoted-read fs g s (byte {b = b} {f = f} {w = w} t r) =
    from-keep quoted b fs g (w ++ (quote ∷ s)) (quotable-kept b t) ∙ quoted-read fs (g ++ (b ∷ [])) s r ∙ ap (λ (l : List ℕ). records_from closing fs l s) (append_snoc g b f)
quoted-read fs g s (doubled {f = f} {w = w} r) =
    from-skip quoted quote fs g (quote ∷ (w ++ (quote ∷ s))) (ap (move quoted) (kind_of-quote quote refl))
    ∙ from-keep closing quote fs g (w ++ (quote ∷ s)) (ap (move closing) (kind_of-quote quote refl))
    ∙ quoted-read fs (g ++ (quote ∷ [])) s r ∙ ap (λ (l : List ℕ). records_from closing fs l s) (append_snoc g quote f)

pub data Done : Mode → Type 0 where
  at-start : Done start
  in-plain : Done plain
  closed : Done closing

done-cut : {m : Mode} → Done m → move m Comma ≡ cut
done-cut at-start = refl
done-cut in-plain = refl
done-cut closed = refl

done-returns : {m : Mode} → Done m → move m Return ≡ skip ending
done-returns at-start = refl
done-returns in-plain = refl
done-returns closed = refl

done_end : {m : Mode} (fs : List (List ℕ)) (f : List ℕ) → Done m → records_from m fs f [] ≡ next (fs ++ (f ∷ [])) ended
unfolding records_from
done_end fs f at-start = refl
done_end fs f in-plain = refl
done_end fs f closed = refl

record Lands (fs : List (List ℕ)) (f w s : List ℕ) : Type 0 where
  mode : Mode
  done : Done mode
  is : records_from start fs [] (w ++ s) ≡ records_from mode fs f s

field-lands : (fs : List (List ℕ)) {f w : List ℕ} (s : List ℕ) → FieldWritten f w → Lands fs f w s
field-lands fs s (bare none) = record { mode = start; done = at-start; is = refl }
field-lands fs s (bare (more {x = b} {xs = g} t r)) = record {
  mode = plain;
  done = in-plain;
  is = from-keep start b fs [] (g ++ s) (ap (move start) (kind_of-text b t)) ∙ plain-read fs (b ∷ []) s r;
}
field-lands fs s (escaped {f = f} {w = w} q) = record {
  mode = closing;
  done = closed;
  is = ap (λ (l : List ℕ). records_from start fs [] (quote ∷ l)) (append_assoc w (quote ∷ []) s)
      ∙ from-skip start quote fs [] (w ++ (quote ∷ s)) (ap (move start) (kind_of-quote quote refl)) ∙ quoted-read fs [] s q;
}

-- ---- a record

-- what ends a record: the file's end, or CR LF and what follows
record Ends (s : List ℕ) (r : Records) : Type 0 where
  by : {m : Mode} (fs : List (List ℕ)) (f : List ℕ) → Done m → records_from m fs f s ≡ next (fs ++ (f ∷ [])) r

record-reads : (fs : List (List ℕ)) {gs : List (List ℕ)} {w : List ℕ} (s : List ℕ) {r : Records} → Ends s r → RecordWritten gs w → records_from start fs [] (w ++ s) ≡ next (fs ++ gs) r
record-reads fs s e (one {f = f} t) = let l = field-lands fs s t in l.is ∙ e.by fs f l.done
record-reads fs s {r} e (many {f = f} {w = w} {v = v} {fs = gs} t rest) =
    let l = field-lands fs (comma ∷ (v ++ s)) t in
    ap (records_from start fs []) (append_assoc w (comma ∷ v) s) ∙ l.is
    ∙ from_cut l.mode comma fs f (v ++ s) (ap (move l.mode) (kind_of-comma comma refl) ∙ done-cut l.done)
    ∙ record-reads (fs ++ (f ∷ [])) s e rest ∙ ap (λ (k : List (List ℕ)). next k r) (append_snoc fs f gs)

ends-file : Ends [] ended
ends-file = record { by = λ fs f d. done_end fs f d }

ends-line : (s : List ℕ) → Ends (carriage ∷ (feed ∷ s)) (follow s)
ends-line s = record {
  by = λ {m} fs f d.
      from-skip m carriage fs f (feed ∷ s) (ap (move m) (kind_of-return carriage refl) ∙ done-returns d) ∙ from-line ending feed fs f s (ap (move ending) (kind_of-feed feed refl));
}

-- ---- a file

pub file-reads : {rs : List (List (List ℕ))} {s : List ℕ} → FileWritten rs s → records_of s ≡ record_list rs
unfolding record_list
file-reads (unended {w = w} t) = ap records_of (sym (append-nil w)) ∙ record-reads [] [] ends-file t
file-reads (line_ended {fs = fs} t) = record-reads [] (carriage ∷ (feed ∷ [])) (ends-line []) t ∙ ap (next fs) follow-none
file-reads (and_then {fs = fs} {v = v} t some r) =
    record-reads [] (carriage ∷ (feed ∷ v)) (ends-line v) t ∙ ap (next fs) (follow-some v some ∙ file-reads r)
