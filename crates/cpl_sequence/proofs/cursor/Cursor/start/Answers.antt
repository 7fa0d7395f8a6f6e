use Rattle.std.proofs.Common.{◌≡◌, ◌∙◌, replicate, refl, subst}
use Rattle.cpl_sequence.specs.Remainder.{IsFilledFrom, start_frame}
use Rattle.cpl_sequence.specs.Turns.{start_frames}
use Rattle.cpl_sequence.proofs.CursorFacts.{begun_of, of_begun}
use Rattle.cpl_sequence.proofs.cursor.Cursor.start.Goals as goal

pub returns-clause-of : goal.returns-clause-of
returns-clause-of c =
    let items : c.from_vec.result ≡ start_frames (replicate 9 start_frame) = c.from_vec.ensures ∙ c.in_ok-frames.ensures.items_if_clones_equal (λ y h. h) in
    let filled = subst (λ tops. IsFilledFrom tops 0 c.filled_from.result) c.loops.ensures.value c.filled_from.ensures in
    rw items (of_begun c.args.seq.now c.filled_from.result (replicate 9 start_frame) refl c.loops.ensures.sound filled)

pub returns-clause-all : goal.returns-clause-all
returns-clause-all c =
    let items : c.from_vec.result ≡ start_frames (replicate 9 start_frame) = c.from_vec.ensures ∙ c.in_ok-frames.ensures.items_if_clones_equal (λ y h. h) in
    let filled = subst (λ tops. IsFilledFrom tops 0 c.filled_from.result) c.loops.ensures.value c.filled_from.ensures in
    rw items (begun_of c.args.seq.now c.filled_from.result (replicate 9 start_frame) refl c.loops.ensures.sound filled)
