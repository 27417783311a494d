-- A call of a function, whatever its signature: the arguments, the result and the slices at exit, of which its
-- contract holds.
use Rattle.std.specs.Prelude.{ℕ, List}
use contract.Lifetimes.{Lfts}
use borrow.Fn.Kinds.{ParamKind, ResultKind, Out, Dens, res_t, ended_of}
use denote.Triple.Clauses.{AtExit}

-- `Post` is what the function's `ensures` says; ps and r are the kinds of its parameters and of its result
pub record Called (n : ℕ) (ps : List (ParamKind n)) (r : ResultKind n) (Post : Out n ps r) : Type 1 where
  pub κs : Lfts n
  pub args : Dens κs ps
  pub result : (res_t r κs).Denot
  pub exit : AtExit (ended_of n ps r) κs
  pub post : Post κs args result exit
