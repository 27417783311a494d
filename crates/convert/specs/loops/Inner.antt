-- What only inner functions and the laws of a run speak of: what the laws ask of a step and of a Unicode side, and what
-- is sent as the code holds it.
use Rattle.std.specs.Prelude.{ℕ, ◌<◌, ◌≤◌, ◌≡◌, List, ◌++◌, length, take}
use Rattle.utf.specs.Utf8.{Scalar}
use Rattle.utf.specs.Scheme.{Side}
use Rattle.utf.specs.declared.utf8.Sequence.TheVariants as sequence
use Rattle.utf.specs.declared.utf8.Stop.{Stop}
use Rattle.utf.specs.declared.utf8.Stop.TheVariants as stopped
use Rattle.table.specs.Codes.{unpacked}
use Rattle.convert.specs.Run.{Gives, give, stop, SequenceStep}
use Rattle.convert.specs.declared.Sent.{Sent}
use Rattle.convert.specs.declared.Sent.TheVariants as sent

-- what the laws of a run ask of its step
pub record Sound (step : SequenceStep) : Type 0 where
  pub some : (st : ℕ) (s bs : List ℕ) (n next : ℕ) → step st s ≡ give bs n next → 0 < n
  pub within : (st : ℕ) (s bs : List ℕ) (n next : ℕ) → step st s ≡ give bs n next → n ≤ length s
  pub grows : (st : ℕ) (s t bs : List ℕ) (n next : ℕ) → step st s ≡ give bs n next
      → step st (s ++ t) ≡ give bs n next

-- what skipping asks of a step: its illegal sequences have some bytes, lie in the input and stay under more input
pub record Settled (step : SequenceStep) : Type 0 where
  pub illegal-some : (st : ℕ) (s : List ℕ) (n : ℕ) → step st s ≡ stop (stopped.Illegal n) → 0 < n
  pub illegal-within : (st : ℕ) (s : List ℕ) (n : ℕ) → step st s ≡ stop (stopped.Illegal n) → n ≤ length s
  pub illegal-stays : (st : ℕ) (s t : List ℕ) (n : ℕ) → step st s ≡ stop (stopped.Illegal n)
      → step st (s ++ t) ≡ stop (stopped.Illegal n)

-- what a conversion in pieces asks of a step: a stop stays under more input, unless it is 'cut short', and then there
-- are at most three bytes
pub record Pieceable (step : SequenceStep) : Type 0 where
  pub stays : (st : ℕ) (s t : List ℕ) (w : Stop) → (w ≡ stopped.CutShort → ⊥) → step st s ≡ stop w
      → step st (s ++ t) ≡ stop w
  pub short : (st : ℕ) (s : List ℕ) → step st s ≡ stop stopped.CutShort → length s ≤ 3

-- a sequence gives at most so many bytes
abbrev pub AtMost : ℕ → SequenceStep → Type 0
AtMost cap step = (st : ℕ) (s bs : List ℕ) (n next : ℕ) → step st s ≡ give bs n next → length bs ≤ cap

-- what a sequence gives it gives alone, with nothing behind it
abbrev pub GivesAlone : SequenceStep → Type 0
GivesAlone step =
    (st : ℕ) (s bs : List ℕ) (n next : ℕ) → step st s ≡ give bs n next → step st (take n s) ≡ give bs n next

-- it hands the state on as it came
abbrev pub Stays : SequenceStep → Type 0
Stays step = (st : ℕ) (s bs : List ℕ) (n next : ℕ) → step st s ≡ give bs n next → st ≡ next

-- what the conversions need of a Unicode side
pub record LawfulSide (u : Side) : Type 0 where
  pub some : (c : ℕ) → 0 < length (u.encode c)
  pub few : (c : ℕ) → length (u.encode c) ≤ 4
  pub put_reads : (c : ℕ) (rest : List ℕ) → Scalar c
      → u.decode (u.encode c ++ rest) ≡ sequence.Scalar c (length (u.encode c))
  pub scalar : (s : List ℕ) (c n : ℕ) → u.decode s ≡ sequence.Scalar c n → Scalar c
  pub positive : (s : List ℕ) (c n : ℕ) → u.decode s ≡ sequence.Scalar c n → 0 < n
  pub within : (s : List ℕ) (c n : ℕ) → u.decode s ≡ sequence.Scalar c n → n ≤ length s
  pub grows : (s t : List ℕ) (c n : ℕ) → u.decode s ≡ sequence.Scalar c n
      → u.decode (s ++ t) ≡ sequence.Scalar c n
  pub alone : (s : List ℕ) (c n : ℕ) → u.decode s ≡ sequence.Scalar c n → u.decode (take n s) ≡ sequence.Scalar c n
  pub unit-some : 0 < u.unit
  pub unit-within : (s : List ℕ) (n : ℕ) → u.decode s ≡ sequence.Stopped (stopped.Illegal n) → u.unit ≤ length s
  pub illegal-grows : (s t : List ℕ) (n : ℕ) → u.decode s ≡ sequence.Stopped (stopped.Illegal n)
      → u.decode (s ++ t) ≡ sequence.Stopped (stopped.Illegal n)

-- what is sent, as bytes: the code's bits hold its bytes, the first on top
abbrev pub sent_of : Sent → Gives
sent_of (sent.Code bits len n) = give (unpacked len bits) n 0
sent_of (sent.Stopped w) = stop w
