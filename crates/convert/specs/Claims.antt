-- What the promised laws of the conversions speak of.
-- Contents: well-formed output; a text of a scheme read as code points; a code that round-trips (document 01, 'The
-- audit of codes': comes home), by lines; frames of such codes; a frame converted with skipping, in parts.
use Rattle.std.specs.Prelude.{ℕ, ◌+◌, ◌≤◌, ◌≡◌, Bool, true, length}
use mathlib.Core.List.{List, [], ◌∷◌, ◌++◌, flatten}
use Rattle.std.proofs.Math.Option.{some}
use Rattle.utf.specs.Scheme.{Side, well_formed_in}
use Rattle.utf.specs.declared.utf8.Sequence.{Sequence}
use Rattle.utf.specs.declared.utf8.Sequence.TheVariants as sequence
use Rattle.utf.specs.declared.utf8.Stop.TheVariants as stopped
use Rattle.utf.specs.declared.scheme.Scheme.{Scheme}
use Rattle.table.specs.States.{is_code}
use Rattle.table.specs.Codes.{AllByte}
use Rattle.table.specs.Meaning.{Line, Table, steps_of, reader}
use Rattle.convert.specs.Run.{Gives, give, stop, SequenceStep, Run, run_of}
use Rattle.convert.specs.Step.{Written, writes}
use Rattle.convert.specs.Convert.{read_in, to_side}
use Rattle.convert.specs.declared.RunEnd.TheVariants.{AllRead}
use Rattle.convert.specs.declared.Settings.{Settings}
use Rattle.lists.specs.Order.{All as Every}

-- bytes that are whole well-formed sequences of a scheme, one after the other (a byte order mark is one too)
pub record WellFormedText (e : Scheme) (bs : List ℕ) : Type 0 where
  pub sequences : List (List ℕ)
  pub joined : bs ≡ flatten sequences
  pub formed : Every (λ q. well_formed_in e q ≡ true) sequences

-- the code points themselves as a side of Unicode
abbrev pub read_point : List ℕ → Sequence
read_point [] = sequence.Stopped stopped.CutShort
read_point (c ∷ s) = sequence.Scalar c 1

abbrev pub code_points : Side
code_points = record { decode = read_point; encode = λ c. c ∷ []; unit = 1 }

-- the code points of a table's bytes, which have at most one for each byte
abbrev pub points_in : Table → Settings → List ℕ → List ℕ
points_in t settings s = (to_side code_points t settings s (length s)).bytes

-- reading a text: the step gives the code points themselves
abbrev pub on_text : Sequence → Gives
on_text (sequence.Scalar c n) = give (c ∷ []) n 0
on_text (sequence.Stopped w) = stop w

abbrev pub text_step : Side → SequenceStep
text_step u row s = on_text (u.decode s)

-- the run that read all of s
abbrev pub all_read : List ℕ → List ℕ → Run
all_read s bs = record { end = AllRead; read = length s; bytes = bs; state = 0 }

-- bytes that read in a scheme, to the last of them, as these code points
abbrev pub ReadsAs : Scheme → List ℕ → List ℕ → Type 0
ReadsAs e bs points = read_in e (λ u. run_of (text_step u) 0 0) bs (length points) ≡ all_read bs points

-- bytes that read as the first of these code points
pub record ReadsAsFirst (e : Scheme) (bs all : List ℕ) : Type 0 where
  pub points : List ℕ
  pub rest : List ℕ
  pub first : all ≡ points ++ rest
  pub reads : ReadsAs e bs points

-- a code round-trips: it reads as a code point which, strict, under the same fallback setting, is written as the same
-- code
pub record RoundTrips (t : Table) (fallback : Bool) (c : List ℕ) : Type 0 where
  pub line : Line
  pub reads : reader c t.lines ≡ some line
  pub written : writes t fallback line.point ≡ Written.code c

-- a complete code that round-trips
pub record RoundTripCode (t : Table) (fallback : Bool) : Type 0 where
  pub code : List ℕ
  pub bytes : AllByte code
  pub whole : is_code (steps_of t) 0 code ≡ true
  pub round-trips : RoundTrips t fallback code

-- a frame of such codes
unfoldable pub frame_of : {t : Table} {fallback : Bool} → List (RoundTripCode t fallback) → List ℕ
frame_of [] = []
frame_of (h ∷ l) = h.code ++ frame_of l

-- ## A frame converted with skipping, in parts

-- a part without an illegal sequence, what it gives, and the illegal sequence behind it
pub record Part : Type 0 where
  pub bytes : List ℕ
  pub gives : List ℕ
  pub illegal : List ℕ

-- parts, and the rest behind the last illegal sequence
abbrev pub in_parts : List Part → List ℕ → List ℕ
in_parts [] rest = rest
in_parts (p ∷ l) rest = p.bytes ++ (p.illegal ++ in_parts l rest)

-- what they give, `bs` standing for each illegal sequence
abbrev pub parts_give : List ℕ → List Part → List ℕ → List ℕ
parts_give bs [] last = last
parts_give bs (p ∷ l) last = p.gives ++ (bs ++ parts_give bs l last)

-- by a step that does not skip: each part by itself is read whole and gives that, in any space it fits into; behind it
-- stands an illegal sequence
abbrev pub PartsStand : SequenceStep → List Part → List ℕ → Type 0
PartsStand step [] rest = Unit {0}
PartsStand step (p ∷ l) rest =
    ((room : ℕ) → length p.gives ≤ room → run_of step 0 0 p.bytes room ≡ all_read p.bytes p.gives)
    × (step 0 (p.illegal ++ in_parts l rest) ≡ stop (stopped.Illegal (length p.illegal)))
    × PartsStand step l rest

-- r, a run that skips on s, in parts: it ends as the rest by itself does, and gives what the parts and the rest do
pub record InParts (step : SequenceStep) (bs s : List ℕ) (r : Run) : Type 0 where
  pub parts : List Part
  pub rest : List ℕ
  pub joined : s ≡ in_parts parts rest
  pub stand : PartsStand step parts rest
  pub last : Run
  pub converts : (room : ℕ) → length last.bytes ≤ room → run_of step 0 0 rest room ≡ last
  pub ends : r.end ≡ last.end
  pub place : r.read + length rest ≡ length s + last.read
  pub output : r.bytes ≡ parts_give bs parts last.bytes
