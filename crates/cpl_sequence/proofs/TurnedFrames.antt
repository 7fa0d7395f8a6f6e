-- Frames after a turn.
use Rattle.std.proofs.Common.{◌≡◌, ℕ, zero, suc, ◌+◌, ◌<◌, ◌≤◌, List, [], ◌∷◌, ◌++◌, length, take, drop, set, get_or, refl, sym, ap, ◌∙◌, arith, add-one, append_assoc, append-nil}
use Rattle.std.proofs.lemmas.List.{drop_all, drop_more, length-map, length-set, length-take-le, set_at, take_all, take_more}
use Rattle.cpl_sequence.specs.Remainder.{start_frame}
use Rattle.cpl_sequence.specs.Turns.{start_frames, turned_frames}
use Rattle.cpl_sequence.specs.declared.frame.Frame.{Frame}

-- a turn changes no number of frames
pub length-turned_frames : (frames : List Frame) (level : ℕ) (frame : Frame) → length (turned_frames frames level frame) ≡ length frames
length-turned_frames [] level frame = refl
length-turned_frames (above ∷ frames) zero frame = ap suc (length-map frames (λ x. start_frame))
length-turned_frames (above ∷ frames) (suc level) frame = ap suc (length-turned_frames frames level frame)

-- frames at the beginning
get_or-start_frames : (frames : List Frame) (i : ℕ) → get_or (start_frames frames) i start_frame ≡ start_frame
get_or-start_frames [] i = refl
get_or-start_frames (frame ∷ frames) zero = refl
get_or-start_frames (frame ∷ frames) (suc i) = get_or-start_frames frames i

-- below the level of a turn frames are at the beginning
get_or-turned_frames : (frames : List Frame) (level : ℕ) (frame : Frame) (i : ℕ) → level < i → get_or (turned_frames frames level frame) i start_frame ≡ start_frame
get_or-turned_frames [] level frame i below = refl
get_or-turned_frames (above ∷ frames) zero frame zero below = absurd (omega arith)
get_or-turned_frames (above ∷ frames) zero frame (suc i) below = get_or-start_frames frames i
get_or-turned_frames (above ∷ frames) (suc level) frame zero below = absurd (omega arith)
get_or-turned_frames (above ∷ frames) (suc level) frame (suc i) below = get_or-turned_frames frames level frame i (omega arith)

-- so many frames are turned_frames, and the others are as they were
pub record IsTurning (frames now : List Frame) (level : ℕ) (frame : Frame) (at : ℕ) : Type 0 where
  pub is : now ≡ take at (turned_frames frames level frame) ++ drop at frames
  pub below : level < at
  pub many : length now ≡ length frames

-- the frame at the level
turned_first : (frames : List Frame) (level : ℕ) (frame : Frame) → level < length frames → set frames level frame ≡ take (suc level) (turned_frames frames level frame) ++ drop (suc level) frames
turned_first [] level frame inside = absurd (omega arith)
turned_first (above ∷ frames) zero frame inside = refl
turned_first (above ∷ frames) (suc level) frame inside = ap (λ xs. above ∷ xs) (turned_first frames level frame (omega arith))

-- the frame at the level is turned_frames
pub turning_first : (frames : List Frame) (level : ℕ) (frame : Frame) → level < length frames → IsTurning frames (set frames level frame) level frame (level + 1)
turning_first frames level frame inside = record {
  is = rw (add-one level) (turned_first frames level frame inside);
  below = omega arith;
  many = length-set frames level frame;
}

-- one frame more
pub turning_more : (frames now : List Frame) (level : ℕ) (frame : Frame) (at : ℕ) → at < length frames → IsTurning frames now level frame at → IsTurning frames (set now at start_frame) level frame (at + 1)
turning_more frames now level frame at inside so_far =
    let after = turned_frames frames level frame in
    let many : at < length after = omega (arith, length-turned_frames frames level frame) in
    record {
      is =
          ap (λ xs. set xs at start_frame) (so_far.is ∙ ap (λ xs. take at after ++ xs) (drop_more frames at start_frame inside))
          ∙ set_at (take at after) (get_or frames at start_frame) (drop (at + 1) frames) start_frame at (length-take-le at after (omega arith))
          ∙ sym (append_assoc (take at after) (start_frame ∷ []) (drop (at + 1) frames))
          ∙ ap (λ xs. xs ++ drop (at + 1) frames) (ap (λ x. take at after ++ x ∷ []) (sym (get_or-turned_frames frames level frame at so_far.below)) ∙ sym (take_more after at start_frame many));
      below = omega (arith, so_far.below);
      many = length-set now at start_frame ∙ so_far.many;
    }

-- all frames
pub turning_all : (frames now : List Frame) (level : ℕ) (frame : Frame) (at : ℕ) → length frames ≤ at → IsTurning frames now level frame at → now ≡ turned_frames frames level frame
turning_all frames now level frame at end so_far =
    let after = turned_frames frames level frame in
    so_far.is
    ∙ ap (λ xs. take at after ++ xs) (drop_all at frames end)
    ∙ append-nil (take at after)
    ∙ take_all at after (omega (arith, length-turned_frames frames level frame))
