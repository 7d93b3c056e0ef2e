-- How procedures and their parameters are written out.
use Rattle.std.specs.Prelude.{ℕ, if◌then◌else◌, nat_eq, List, [], ◌∷◌, ◌++◌, take, drop, codes, decimal}
use Rattle.std.specs.Str.{encode_utf8_all}
use Rattle.bstr.specs.Utf8.{lossy_chars}
use Rattle.itertools.specs.Consumer.{joined}
use Rattle.lang.specs.Base.{Word}
use Rattle.lang.specs.Syntax.{Decl}
use Rattle.walk.specs.Shapes.{numbers_in}

-- a name
abbrev pub name_text : Word → List ℕ
name_text w = encode_utf8_all (lossy_chars w)

-- the length of a row, in brackets; nothing for a number
abbrev pub length_text : ℕ → List ℕ
length_text n = if nat_eq n 0 then [] else codes "[" ++ (decimal n ++ codes "]")

-- a name as it is declared
abbrev pub declared_text : Decl → List ℕ
declared_text d = name_text d.name ++ length_text d.size

-- names as they are declared, with commas between
abbrev pub signature_text : List Decl → List ℕ
signature_text ds = joined declared_text (codes ", ") ds

-- names, with commas between
abbrev pub names_text : List Word → List ℕ
names_text xs = joined name_text (codes ", ") xs

-- the first number, if there is one
abbrev pub first_text : List ℕ → List ℕ
first_text [] = []
first_text (n ∷ ns) = decimal n

-- a row, in brackets
abbrev pub row_text : List ℕ → List ℕ
row_text ns = codes "[" ++ (joined decimal (codes ", ") ns ++ codes "]")

-- the numbers of a name of that size
abbrev pub numbers_text : ℕ → List ℕ → List ℕ
numbers_text size ns = if nat_eq size 0 then first_text ns else row_text ns

-- a name, with its numbers
abbrev pub value_text : Decl → List ℕ → List ℕ
value_text d ns = name_text d.name ++ (codes " = " ++ (numbers_text d.size ns ++ codes "\n"))

-- names, each on a line, with its numbers: the first so many, the next so many
abbrev pub values_text : List Decl → List ℕ → List ℕ
values_text [] ns = []
values_text (d ∷ ds) ns = value_text d (take (numbers_in d.size) ns) ++ values_text ds (drop (numbers_in d.size) ns)
