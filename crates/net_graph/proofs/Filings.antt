-- A net is fed the same, all at once or its files first and the input after them.
use Rattle.std.proofs.Common.{◌≡◌, ℕ, zero, suc, ◌||◌, List, [], ◌∷◌, map, slice_get, refl, ap, ap₂, Option, Some}
use Rattle.std.specs.List.{list_any}
use Rattle.pipe_model.specs.declared.kind.Kind.{Kind}
use Rattle.pipe_model.specs.declared.kind.Kind.TheVariants.{ConsoleIn, FileIn}
use Rattle.pipe_model.specs.declared.net.Net.{Net}
use Rattle.pipe_model.specs.declared.net.Strand.{Strand}
use Rattle.pipe_model.specs.Table.{line_of}
use Rattle.pipe_model.specs.Table.Feed.{OfFile}
use Rattle.net_graph.specs.Fed.{fed, fed_kind, fed_strand, filed, filed_kind, input_kind, reads_any, reads_input, with_input}

abbrev with_kind_of : Strand → Kind → Strand
with_kind_of p kind = record p { kind = kind }

abbrev filed_strand : (List ℕ → Option (List ℕ)) → Strand → Strand
filed_strand files p = with_kind_of p (filed_kind files p.kind)

-- The input after the files

input_of_filed_kind : (input : List ℕ) (files : List ℕ → Option (List ℕ)) (kind : Kind) → input_kind input (filed_kind files kind) ≡ fed_kind input files kind
input_of_filed_kind input files (ConsoleIn bytes) = refl
input_of_filed_kind input files (FileIn name bytes) = refl
input_of_filed_kind input files _ = refl

input_of_filed_strands : (input : List ℕ) (files : List ℕ → Option (List ℕ)) (strands : List Strand)
    → map (λ (p : Strand). with_kind_of p (input_kind input p.kind)) (map (filed_strand files) strands) ≡ map (fed_strand input files) strands
input_of_filed_strands input files [] = refl
input_of_filed_strands input files (p ∷ strands) =
    ap₂ (λ (q : Strand) (qs : List Strand). q ∷ qs) (ap (with_kind_of p) (input_of_filed_kind input files p.kind)) (input_of_filed_strands input files strands)

pub input_of_filed : (input : List ℕ) (files : List ℕ → Option (List ℕ)) (net : Net) → with_input input (filed files net) ≡ fed input files net
input_of_filed input files net = ap (λ (strands : List Strand). record net { strands = strands }) (input_of_filed_strands input files net.strands)

-- Files that are the same for the net

filed_same_kind : (files others : List ℕ → Option (List ℕ)) (kind : Kind) → ((name : List ℕ) → (line_of kind).feed ≡ OfFile name → files name ≡ others name) → filed_kind files kind ≡ filed_kind others kind
filed_same_kind files others (FileIn name bytes) same = ap (FileIn name) (same name refl)
filed_same_kind files others _ same = refl

filed_same_strands : (files others : List ℕ → Option (List ℕ)) (strands : List Strand)
    → ((s : ℕ) (p : Strand) (name : List ℕ) → slice_get strands s ≡ Some p → (line_of p.kind).feed ≡ OfFile name → files name ≡ others name)
    → map (filed_strand files) strands ≡ map (filed_strand others) strands
filed_same_strands files others [] same = refl
filed_same_strands files others (p ∷ strands) same =
    ap₂ (λ (q : Strand) (qs : List Strand). q ∷ qs) (ap (with_kind_of p) (filed_same_kind files others p.kind (λ name is. same zero p name refl is)))
    (filed_same_strands files others strands (λ s q name at is. same (suc s) q name at is))

pub filed_same : (files others : List ℕ → Option (List ℕ)) (net : Net)
    → ((s : ℕ) (p : Strand) (name : List ℕ) → slice_get net.strands s ≡ Some p → (line_of p.kind).feed ≡ OfFile name → files name ≡ others name) → filed files net ≡ filed others net
filed_same files others net same = ap (λ (strands : List Strand). record net { strands = strands }) (filed_same_strands files others net.strands same)

-- Who reads the input

reads_filed_kind : (files : List ℕ → Option (List ℕ)) (kind : Kind) → reads_input (filed_kind files kind) ≡ reads_input kind
reads_filed_kind files (FileIn name bytes) = refl
reads_filed_kind files _ = refl

reads_filed_strands : (files : List ℕ → Option (List ℕ)) (strands : List Strand)
    → list_any (λ (p : Strand). reads_input p.kind) (map (filed_strand files) strands) ≡ list_any (λ (p : Strand). reads_input p.kind) strands
reads_filed_strands files [] = refl
reads_filed_strands files (p ∷ strands) = ap₂ (λ a b. a || b) (reads_filed_kind files p.kind) (reads_filed_strands files strands)

pub reads_filed : (files : List ℕ → Option (List ℕ)) (net : Net) → reads_any (filed files net) ≡ reads_any net
reads_filed files net = reads_filed_strands files net.strands
