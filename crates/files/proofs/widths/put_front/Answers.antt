-- `files::widths::put_front` meets its contract. The loop's invariant: the widths of the first j attributes stand behind the number of attributes.
-- Assumes nothing.
use mathlib.Core.Path.{◌≡◌, sym, ap, ◌∙◌}
use mathlib.Core.List.{List, [], ◌∷◌, ◌++◌}
use Prim.Native.Nat.{ℕ, ◌+◌}
use native.Mathlib.Omega.{arith}
use lib.ListN.{length, get_or, set, take, length-set}
use lib.Seq.{paste}
use Rattle.boxes.specs.Limits.{max_attributes}
use Rattle.boxes.proofs.Lists.{copy-turn, get_d_map}
use Rattle.questions.specs.Words.{over}
use Rattle.fields.proofs.Laws.{over-counted}
use Rattle.files.specs.Widths.{least_width, widths_for}
use Rattle.files.specs.Raising.{widths_of}
use Rattle.files.proofs.FrontWidths.{front_at, found-long, front-widths}
use Rattle.files.proofs.widths.put_front.Goals as goal
use Rattle.files.proofs.widths.put_front.Goals.{After-highest_values-highest}

many : (c : After-highest_values-highest) → length (widths_of c.highest_values-highest.result) ≡ max_attributes
many c = rw c.highest_values-highest.ensures (found-long c.requires)

pub highest_values-highest-requires : goal.highest_values-highest-requires
highest_values-highest-requires c = front_at c.requires

pub loop-j-preserved : goal.loop-j-preserved
loop-j-preserved c =
    let d = set c.args.words.now 0 c.args.dimension in
    let j = c.loop-j.j in
    let hs = c.highest_values-highest.result in
    let all = many (goal.at.loop-j-preserved c).After-highest_values-highest in
    let long : length d ≡ length c.args.words.now = length-set c.args.words.now 0 c.args.dimension in
    let width : c.width_of.result ≡ get_or (widths_of hs) j 0 = c.width_of.ensures ∙ sym (get_d_map (λ h. least_width (h ∷ [])) hs j 0 0 (omega (arith, all, c.requires.few))) in
    copy-turn d (widths_of hs) 1 j (j + 1) c.width_of.result (omega arith) (omega (arith, c.requires.long)) (omega (arith, all, c.requires.few)) c.loop-j.invariant width

pub returns : goal.returns
returns c f =
    let w = c.args.words.now in
    let n = c.args.dimension in
    let hs = c.highest_values-highest.result in
    let all : c.loop-j.j ≡ n = omega arith in
    let made : c.loop-j.words ≡ paste (set w 0 n) 1 (widths_of hs) n = c.loop-j.invariant ∙ ap (paste (set w 0 n) 1 (widths_of hs)) all in
    let widths : take n (widths_of hs) ≡ widths_for n f.tables = rw c.highest_values-highest.ensures (front-widths f) in
    over-counted w (widths_of hs) n c.args.tables c.requires.long (omega (arith, many (goal.at.returns c).After-highest_values-highest, c.requires.few)) made
    ∙ ap (λ (ws : List ℕ). over (n ∷ (ws ++ (c.args.tables ∷ []))) w) widths
