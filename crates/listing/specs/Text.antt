-- The lines of a listing (01, Lister) as bytes: the line of a frame, the total line.
-- Assumes nothing.
use Rattle.std.specs.Prelude.{List, [], ◌∷◌, ◌++◌, ℕ}
use Prim.Native.Char.{code}
use Prim.Native.String.{String, [] as nothing, ◌∷◌ as ◌then◌}
use Rattle.decimals.specs.Decimals.{digits, decimal}

-- four digits, zeros in front
abbrev pub four : ℕ → List ℕ
four n = digits 4 n

abbrev pub space : List ℕ
space = 32 ∷ []

abbrev pub newline : List ℕ
newline = 10 ∷ []

-- "total "
abbrev pub total_text : List ℕ
total_text = 116 ∷ 111 ∷ 116 ∷ 97 ∷ 108 ∷ 32 ∷ []

-- " answer "
abbrev pub answer_text : List ℕ
answer_text = 32 ∷ 97 ∷ 110 ∷ 115 ∷ 119 ∷ 101 ∷ 114 ∷ 32 ∷ []

-- " at "
abbrev pub at_text : List ℕ
at_text = 32 ∷ 97 ∷ 116 ∷ 32 ∷ []

-- "input too long" and a newline
abbrev pub too_long : List ℕ
too_long = 105 ∷ 110 ∷ 112 ∷ 117 ∷ 116 ∷ 32 ∷ 116 ∷ 111 ∷ 111 ∷ 32 ∷ 108 ∷ 111 ∷ 110 ∷ 103 ∷ 10 ∷ []

-- a frame's four-digit number, its reply and its body bytes
unfoldable pub frame_line : ℕ → ℕ → ℕ → List ℕ
frame_line number reply bytes = four number ++ (space ++ (decimal reply ++ (space ++ (decimal bytes ++ newline))))

-- how many sound frames, the reply and its place
unfoldable pub total_line : ℕ → ℕ → ℕ → List ℕ
total_line count reply place =
    total_text ++ (decimal count ++ (answer_text ++ (decimal reply ++ (at_text ++ (decimal place ++ newline)))))

-- the bytes of a text in ASCII, a byte for each character: what examples are written in
unfoldable pub ascii : String → List ℕ
ascii nothing = []
ascii (c then s) = code c ∷ ascii s
