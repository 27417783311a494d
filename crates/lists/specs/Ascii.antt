-- Quoted text as the list of its bytes, and one quoted character as its byte; a character from 80 to FF is that byte.
-- byte "c"   one byte       ascii "text"   its bytes
use Rattle.std.specs.Prelude.{ℕ, List, [], ◌∷◌}
use Prim.Native.String.{String}
use Prim.Native.Char.{Char, code}

abbrev pub byte : Char → ℕ
byte c = code c

abbrev pub ascii : String → List ℕ
ascii String.[] = []
ascii (String.◌∷◌ c s) = code c ∷ ascii s
