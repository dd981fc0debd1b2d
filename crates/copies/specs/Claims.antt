-- What the lift firm sees, and what it does not.
--   SameHidden n h h'  == the same of the first n attributes are hidden: the order and the repetition of numbers, and those not below n, do not matter
--   SeenAlike n h ts ts' == two lists of tuples are equally long, and agree in the visible fields, tuple by tuple
--   Alike h h' s s'    == two accepted texts have the same names and the same hidden attributes, their listings are seen alike, and they end in the same word
--   Secrecy            == then their copies are the same bytes
--   RefusedSecrecy     == so are those of two refused texts
--   Copied h s         == what the copy of a text is, by whether it is refused, complete or stopped
--   CompleteCopy h s, ReliedCopy == the text is accepted, and its whole join is in the copy, in order; so if the last line says `complete`
--   SaidCopy           == and it does say so where the run is not stopped
--   NothingHidden      == without numbers the tuples' lines are those that are printed
--   NoLonger           == no copy is longer than what is printed for the text
--   SameCall           == two calls whose copies are the same bytes, with slices of the same content, give the same answer and leave the same content
use Rattle.std.specs.Prelude.{◌≡◌, false, List, [], ◌∷◌, ◌++◌, ℕ, ◌≤◌, ◌<◌, length, get_or, take, Result}
use Rattle.questions.specs.Orders.{is_in}
use Rattle.questions.specs.Questions.{Question}
use Rattle.tables.specs.Joins.{join_of}
use Rattle.fields.specs.Decimals.{decimal}
use Rattle.text.specs.Prints.{line_of, complete_word, stopped_word, tuple_lines, roomy_run, printed}
use Rattle.text.specs.Claims.{names_of, AcceptedText, RefusedText, line_fields}
use Rattle.copies.specs.Copies.{shown_lines, end_word, refused_copy, copied}
use Rattle.copies.specs.Says.{CopySays}
use Rattle.copies.specs.declared.copy.NoRoom.{NoRoom}

pub record SameHidden (n : ℕ) (h h' : List ℕ) : Type 0 where
  pub same : (k : ℕ) → k < n → is_in k h ≡ is_in k h'

pub record SeenAlike (n : ℕ) (h : List ℕ) (ts ts' : List (List ℕ)) : Type 0 where
  pub long : length ts ≡ length ts'
  pub fields : (i k : ℕ) → i < length ts → k < n → is_in k h ≡ false → get_or (get_or ts i []) k 0 ≡ get_or (get_or ts' i []) k 0

pub record Alike (h h' s s' : List ℕ) : Type 0 where
  pub question : Question
  pub question' : Question
  pub accepted : AcceptedText s question
  pub accepted' : AcceptedText s' question'
  -- the same top names and hidden set,
  pub names : names_of s ≡ names_of s'
  pub hidden : SameHidden (length (names_of s)) h h'
  -- listings that are equally long and agree in the visible fields line by line,
  pub seen : SeenAlike (length (names_of s)) h (roomy_run question).tuples (roomy_run question').tuples
  -- and the same word at the end
  pub word : end_word (roomy_run question).number ≡ end_word (roomy_run question').number

abbrev pub Secrecy : Type 0
Secrecy = (h h' s s' : List ℕ) → Alike h h' s s' → copied h s ≡ copied h' s'

-- whatever the numbers are
abbrev pub RefusedSecrecy : Type 0
RefusedSecrecy = (h h' s s' : List ℕ) (n n' : ℕ) → RefusedText s n → RefusedText s' n' → copied h s ≡ copied h' s'

pub record Copied (h s : List ℕ) : Type 0 where
  pub refused : {n : ℕ} → RefusedText s n → copied h s ≡ refused_copy
  pub complete : {q : Question} → AcceptedText s q → (roomy_run q).number ≡ 0
      → copied h s ≡ line_of (names_of s) ++ shown_lines h (join_of q) ++ line_of (complete_word ∷ decimal (length (join_of q)) ∷ [])
  pub stopped : {q : Question} → AcceptedText s q → ((roomy_run q).number ≡ 0 → ⊥)
      → copied h s ≡ line_of (names_of s) ++ shown_lines h (take (length (roomy_run q).tuples) (join_of q)) ++ line_of (stopped_word ∷ decimal (length (roomy_run q).tuples) ∷ [])

pub record CompleteCopy (h s : List ℕ) : Type 0 where
  pub question : Question
  pub accepted : AcceptedText s question
  pub is : copied h s ≡ line_of (names_of s) ++ shown_lines h (join_of question) ++ line_of (complete_word ∷ decimal (length (join_of question)) ∷ [])

abbrev pub ReliedCopy : Type 0
ReliedCopy = (h s : List ℕ) → get_or (line_fields (copied h s)) 0 [] ≡ complete_word → CompleteCopy h s

abbrev pub SaidCopy : Type 0
SaidCopy = (h s : List ℕ) (q : Question) → AcceptedText s q → (roomy_run q).number ≡ 0 → get_or (line_fields (copied h s)) 0 [] ≡ complete_word

abbrev pub NothingHidden : Type 0
NothingHidden = (ts : List (List ℕ)) → shown_lines [] ts ≡ tuple_lines ts

abbrev pub NoLonger : Type 0
NoLonger = (h s : List ℕ) → length (copied h s) ≤ length (printed s)

abbrev pub SameCall : Type 0
SameCall = (h h' s s' o u u' : List ℕ) (r r' : Result ℕ NoRoom) → copied h s ≡ copied h' s' → CopySays s h o u r → CopySays s' h' o u' r' → (r ≡ r') × (u ≡ u')
