-- The sample: a stated specification on a stated input, and the line that sums it up.
use Rattle.std.specs.Prelude.{ℕ, zero, suc, ◌+◌, ◌*◌, ◌%◌, ◌==◌, List, [], ◌++◌, codes, decimal, filter, length}
use Rattle.call_meaning.specs.Status.{line}

abbrev pub sample_spec : List ℕ
sample_spec = codes "(endchar ?) console | a: locate /7/ | change /7/77/ | b: faninany | console ? a: | b:"

-- the number behind this one
abbrev pub next_number : ℕ → ℕ
next_number number = (number * 1103515245 + 12345) % 2147483648

-- a line of the input: `k` and the last three digits of a number
abbrev pub sample_line : ℕ → List ℕ
sample_line number = line (codes "k" ++ decimal (number % 1000))

-- so many lines, of the numbers behind this one
abbrev pub lines_behind : ℕ → ℕ → List ℕ
lines_behind zero number = []
lines_behind (suc count) number = sample_line (next_number number) ++ lines_behind count (next_number number)

-- the input of so many lines
abbrev pub sample_text : ℕ → List ℕ
sample_text count = lines_behind count 1

-- how many lines a text has, each of which ends with a line feed
abbrev pub line_count : List ℕ → ℕ
line_count text = length (filter (λ byte. byte == 10) text)

-- the line that sums up the sample of so many lines: how many lines and bytes the console's text has, and how many steps were taken
abbrev pub summary : ℕ → List ℕ → ℕ → List ℕ
summary count console steps =
    line (codes "sample " ++ (decimal count ++ (codes " lines " ++ (decimal (line_count console) ++ (codes " bytes " ++ (decimal (length console) ++ (codes " steps " ++ decimal steps)))))))
