-- The keys of a header as they were read (document 01, 'Table text', Header): each one given, with its value, or not.
use Rattle.table.specs.declared.value.Class.{Class as NamedClass}
use Rattle.table.specs.declared.value.Class.TheVariants.{Sbcs, Mbcs}
use Rattle.std.specs.Prelude.{if◌then◌else◌, ℕ, Bool, true, false, List, [], eqb}
use Rattle.std.proofs.Math.Option.{Option, none, some}
use Rattle.lists.specs.Options.{or_else}

-- the classes that are built
pub data Class : Type 0 where
  sbcs : Class
  mbcs : Class

-- the number of a class as a header names it
abbrev pub number_of_class : NamedClass → ℕ
number_of_class Sbcs = 1
number_of_class Mbcs = 2

-- by its number: 1 SBCS, 2 MBCS
abbrev pub class_by : ℕ → Class
class_by n = if eqb n 1 then sbcs else mbcs

-- what the header's lines have given so far; its rows stand beside it
pub record Keys : Type 0 where
  pub name : Bool
  pub min : Option ℕ
  pub max : Option ℕ
  pub class : Option Class
  pub subchar : Option (List ℕ)
  pub subchar1 : Option ℕ

abbrev pub keys : Bool → Option ℕ → Option ℕ → Option Class → Option (List ℕ) → Option ℕ → Keys
keys name min max class sub sub1 =
    record { name = name; min = min; max = max; class = class; subchar = sub; subchar1 = sub1 }

abbrev pub no_keys : Keys
no_keys = keys false none none none none none

abbrev pub is_sbcs : Option Class → Bool
is_sbcs none = false
is_sbcs (some sbcs) = true
is_sbcs (some mbcs) = false

-- the values of required keys; they are asked for at CHARMAP and behind it, where 13 has refused a text without them
abbrev pub min_of : Keys → ℕ
min_of h = or_else 0 h.min

abbrev pub max_of : Keys → ℕ
max_of h = or_else 0 h.max

abbrev pub subchar_of : Keys → List ℕ
subchar_of h = or_else [] h.subchar
