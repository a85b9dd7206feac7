-- Frames of the M-Bus link layer, and their bytes.
use Rattle.std.specs.Prelude.{◌≡◌, ℕ, ◌%◌, ◌≤◌, List, [], ◌∷◌, ◌++◌, length}
use Rattle.std.specs.List.{sum}
use Rattle.byte_model.specs.Bytes.{AreBytes}

-- An acknowledgement; a short frame of control field and address; or a long one of control field, address, control
-- information and a body.
pub data Frame : Type 0 where
  Ack : Frame
  Short : (c a : ℕ) → Frame
  Long : (c a ci : ℕ) (body : List ℕ) → Frame

-- the sum of bytes, modulo 256
abbrev pub checksum : List ℕ → ℕ
checksum bytes = sum bytes % 256

-- bytes from the control field to the end of the body, with their checksum and the stop byte 16 (hexadecimal)
abbrev pub closed : List ℕ → List ℕ
closed counted = counted ++ checksum counted ∷ 22 ∷ []

-- In hexadecimal: E5; 10, the closed bytes; or 68, their number before they are closed, that again, 68, the closed bytes.
abbrev pub frame_bytes : Frame → List ℕ
frame_bytes Ack = 229 ∷ []
frame_bytes (Short c a) = 16 ∷ closed (c ∷ a ∷ [])
frame_bytes (Long c a ci body) =
    104 ∷ length (c ∷ a ∷ ci ∷ body) ∷ length (c ∷ a ∷ ci ∷ body) ∷ 104 ∷ closed (c ∷ a ∷ ci ∷ body)

-- each part is a byte, and so is the number of the counted ones: the body has at most 252
abbrev pub IsFrame : Frame → Type 0
IsFrame Ack = Unit {0}
IsFrame (Short c a) = AreBytes (c ∷ a ∷ [])
IsFrame (Long c a ci body) = AreBytes (c ∷ a ∷ ci ∷ body) × (length body ≤ 252)

-- the bytes are those of the frame, with nothing behind them
abbrev pub Spells : Frame → List ℕ → Type 0
Spells frame bytes = IsFrame frame × (bytes ≡ frame_bytes frame)
