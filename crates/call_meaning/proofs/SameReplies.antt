-- The reply of histories rests on those of the net's strands alone.
use Rattle.std.proofs.Common.{◌≡◌, ℕ, suc, ◌+◌, ◌<◌, List, [], ◌∷◌, ◌++◌, length, refl, sym, ◌∙◌, ap, ap₂, arith}
use Rattle.pipe_model.specs.declared.net.Net.{Net}
use Rattle.pipe_model.specs.declared.net.Strand.{Strand}
use Rattle.pipe_model.specs.Code.{worst_of}
use Rattle.pipe_model.specs.Event.{Event, code_of, has_ended}
use Rattle.pipe_model.specs.Next.{next}
use Rattle.pipe_model.specs.Reply.{FileText, Reply, WaitLine, code_from, console_from, console_part, file_part, files_from, replied, reply, waits_from}
use Rattle.pipe_model.specs.State.{State, Who, past}
use Rattle.pipe_model.specs.Table.{form}
use Rattle.std.specs.Prelude.{if◌then◌else◌}

module _ (a b : State) where
  -- these strands, from a number on, have the same histories
  abbrev AreAlike : Who → List Strand → Type 0
  AreAlike s ps = (k : ℕ) → k < length ps → past a (s + k) ≡ past b (s + k)

  first : (s : Who) (p : Strand) (ps : List Strand) → AreAlike s (p ∷ ps) → past a s ≡ past b s
  first s p ps alike = let e : s + 0 ≡ s = omega arith in sym (ap (past a) e) ∙ alike 0 (omega arith) ∙ ap (past b) e

  rest : (s : Who) (p : Strand) (ps : List Strand) → AreAlike s (p ∷ ps) → AreAlike (suc s) ps
  rest s p ps alike k lt = let e : s + suc k ≡ suc s + k = omega arith in sym (ap (past a) e) ∙ alike (suc k) (omega (arith, lt)) ∙ ap (past b) e

  console_same : (s : Who) (ps : List Strand) → AreAlike s ps → console_from a s ps ≡ console_from b s ps
  console_same s [] alike = refl
  console_same s (p ∷ ps) alike = ap₂ (λ (h : List Event) (more : List ℕ). console_part (form p).keeping h ++ more) (first s p ps alike) (console_same (suc s) ps (rest s p ps alike))

  files_same : (s : Who) (ps : List Strand) → AreAlike s ps → files_from a s ps ≡ files_from b s ps
  files_same s [] alike = refl
  files_same s (p ∷ ps) alike = ap₂ (λ (h : List Event) (more : List FileText). file_part (form p).keeping h ++ more) (first s p ps alike) (files_same (suc s) ps (rest s p ps alike))

  code_same : (s : Who) (ps : List Strand) → AreAlike s ps → code_from a s ps ≡ code_from b s ps
  code_same s [] alike = refl
  code_same s (p ∷ ps) alike = ap₂ (λ (h : List Event) more. worst_of (code_of h) more) (first s p ps alike) (code_same (suc s) ps (rest s p ps alike))

  waits_same : (s : Who) (ps : List Strand) → AreAlike s ps → waits_from a s ps ≡ waits_from b s ps
  waits_same s [] alike = refl
  waits_same s (p ∷ ps) alike =
      ap₂ (λ (h : List Event) (more : List WaitLine). if has_ended h then more else (s, next p h) ∷ more) (first s p ps alike) (waits_same (suc s) ps (rest s p ps alike))

  replied_same : (ps : List Strand) (lines : List WaitLine) → AreAlike 0 ps → replied a ps lines ≡ replied b ps lines
  replied_same ps [] alike =
      ap (λ console. let r : Reply = record { console = console; files = files_from a 0 ps; code = code_from a 0 ps; waits = [] } in r) (console_same 0 ps alike)
      ∙ ap (λ files. let r : Reply = record { console = console_from b 0 ps; files = files; code = code_from a 0 ps; waits = [] } in r) (files_same 0 ps alike)
      ∙ ap (λ code. let r : Reply = record { console = console_from b 0 ps; files = files_from b 0 ps; code = code; waits = [] } in r) (code_same 0 ps alike)
  replied_same ps (w ∷ ws) alike = ap (λ console. replied_with console w ws) (console_same 0 ps alike)
    where
      replied_with : List ℕ → WaitLine → List WaitLine → Reply
      replied_with console w ws = record (replied a ps (w ∷ ws)) { console = console }

pub same_reply : (net : Net) (a b : State) → ((s : ℕ) → s < length net.strands → past a s ≡ past b s) → reply net a ≡ reply net b
same_reply net a b same =
    let alike : AreAlike a b 0 net.strands = λ k lt. let e : 0 + k ≡ k = omega arith in ap (past a) e ∙ same k lt ∙ sym (ap (past b) e) in
    ap (replied a net.strands) (waits_same a b 0 net.strands alike) ∙ replied_same a b net.strands (waits_from b 0 net.strands) alike
