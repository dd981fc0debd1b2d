-- No print is longer than a page.
--   length-line   == a line of fields of at most k bytes each has at most k + 1 bytes for each field
--   tuples-short  == the lines of tuples within the widths, as many as the listing has room for
--   last-short, top-short, refusal-short == the last line, the line of names, a refusal
--   printed-short == what is printed for any text
use mathlib.Core.Path.{◌≡◌, sym, ◌∙◌}
use mathlib.Core.List.{List, [], ◌∷◌, ◌++◌, map}
use Prim.Native.Nat.{ℕ, suc, ◌+◌, ◌*◌, ◌≤◌}
use native.Mathlib.Nat.{mul-le-mul_right}
use native.Mathlib.Omega.{arith}
use lib.Dec.{eqb}
use lib.ListN.{length, length-append, length-map}
use Rattle.boxes.specs.Limits.{max_attributes}
use Rattle.boxes.specs.Fits.{Each, none, more, Point}
use Rattle.boxes.proofs.Tests.{by}
use Rattle.boxes.proofs.Lists.{each-imp, each_map, each2-length}
use Rattle.questions.specs.Questions.{Question, got, read_question}
use Rattle.questions.specs.Good.{Width, Good}
use Rattle.questions.specs.Words.{words_of}
use Rattle.questions.proofs.Laws.{accepted-good, flat-few, point-low}
use Rattle.course.specs.Stores.{resolutions}
use Rattle.course.specs.Runs.{Run}
use Rattle.course.proofs.Laws.{Roomed, run_of-roomed, resolutions-few}
use Rattle.search.specs.Says.{divided}
use Rattle.search.proofs.Laws.{divided-there, divided-few}
use Rattle.fields.specs.Limits.{max_name}
use Rattle.fields.specs.Fields.{space, line_end}
use Rattle.fields.specs.Decimals.{decimal}
use Rattle.fields.proofs.Laws.{length-word, length-value, TopNames, names-short, line-short}
use Rattle.text.specs.Limits.{listing_boxes, listing_words, page_bytes}
use Rattle.text.specs.Prints.{line_of, complete_word, stopped_word, refused_word, tuple_line, tuple_lines, run_counts, last_line, listing, refusal, roomy_run, printed}
use Rattle.text.proofs.ReadNames.{read_text-top}
use Rattle.text.proofs.Demands.{Answered, refusing, accepting, answered, accepted-printed, roomy-points}

-- at most k bytes
abbrev Short : ℕ → List ℕ → Type 0
Short k f = length f ≤ k

length-line : (k : ℕ) (fs : List (List ℕ)) → 1 ≤ length fs → Each (Short k) fs → length (line_of fs) ≤ length fs * suc k
length-line k fs some h = omega (arith, line-short space (line_end ∷ []) k fs some h)

-- ---- tuples

tuple-short : {ws : List ℕ} (p : List ℕ) → 1 ≤ length ws → Each Width ws → Point ws p → Short (length ws * 6) (tuple_line p)
tuple-short {ws} p some wide h =
    let long : length (map decimal p) ≡ length ws = length-map p decimal ∙ sym (each2-length h) in
    rw (← long) (length-line 5 (map decimal p) (omega arith) (each_map decimal length-value (point-low wide h)))

tuples-short : (n : ℕ) (ts : List (List ℕ)) → 1 ≤ n → length ts ≤ divided listing_words n → Each (λ p. Short (n * 6) (tuple_line p)) ts → length (tuple_lines ts) ≤ listing_words * 6
tuples-short n ts some few h =
    let bytes : length (tuple_lines ts) ≤ length (map tuple_line ts) * (n * 6) = flat-few (n * 6) (each_map tuple_line (λ p s. s) h) in
    let words : length ts * n ≤ listing_words = omega (arith, mul-le-mul_right n few, divided-there listing_words n) in
    omega (arith, rw (length-map ts tuple_line) at bytes)

-- ---- the other lines

last-short : (l : ℕ) (x : Run) → l ≤ listing_words → Roomed l listing_boxes x → length (last_line x) ≤ 64
last-short l x few r =
    let counts : Each (Short 10) (run_counts x) =
    more (length-word (length x.tuples) (omega (arith, r.tuples)))
    (more (length-word (length x.boxes) (omega (arith, r.boxes)))
    (more (length-word (resolutions x.boxes) (omega (arith, r.boxes, resolutions-few x.boxes))) none)) in
    by (eqb x.number 0)
    (λ t. rw t (omega (arith, length-line 10 (complete_word ∷ run_counts x) (omega arith) (more (omega arith) counts))))
    (λ f. rw f (omega (arith, length-line 10 (stopped_word ∷ (decimal x.number ∷ run_counts x)) (omega arith) (more (omega arith) (more (length-word x.number (omega (arith, r.number))) counts)))))

top-short : (fs : List (List ℕ)) → TopNames fs → length (line_of fs) ≤ max_attributes * (max_name + 1)
top-short fs h = omega (arith, length-line max_name fs h.some (names-short h), h.few)

refusal-short : (n : ℕ) → n ≤ 28 → length (refusal n) ≤ 64
refusal-short n h = omega (arith, length-line 10 (refused_word ∷ (decimal n ∷ [])) (omega arith) (more (omega arith) (more (length-word n (omega arith)) none)))

-- ---- all that is printed

listing-short : (names : List (List ℕ)) (q : Question) → TopNames names → read_question (words_of q) ≡ got q [] → length (listing names (roomy_run q)) ≤ page_bytes
listing-short names q named e =
    let x = roomy_run q in
    let n = length q.widths in
    let l = divided listing_words n in
    let good : Good q = accepted-good (words_of q) q [] e in
    let some : 1 ≤ n = good.sound.some in
    let room : Roomed l listing_boxes x = run_of-roomed q l listing_boxes in
    let each : Each (λ p. Short (n * 6) (tuple_line p)) x.tuples = each-imp (λ p h. tuple-short p some good.sound.widths h) (roomy-points q e) in
    omega (
      arith,
      length-append (line_of names ++ tuple_lines x.tuples) (last_line x),
      length-append (line_of names) (tuple_lines x.tuples),
      top-short names named,
      tuples-short n x.tuples some room.tuples each,
      last-short l x (divided-few listing_words n) room,
    )

pub printed-short : (s : List ℕ) → length (printed s) ≤ page_bytes
printed-short s = by_answer (answered s)
  where
    by_answer : Answered s → length (printed s) ≤ page_bytes
    by_answer (refusing n few why is) = rw is (omega (arith, refusal-short n few))
    by_answer (accepting q a) = rw (accepted-printed s q a) (listing-short _ q (read_text-top s a.reads) a.accepted)
