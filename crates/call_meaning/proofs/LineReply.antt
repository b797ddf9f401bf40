-- What a complete journal of a straight line answers.
use Rattle.std.proofs.Common.{◌≡◌, ◌≢◌, ℕ, suc, ◌+◌, ◌<◌, true, List, [], ◌∷◌, length, refl, ◌∙◌, ap, subst, arith, Some, is_some, pos, append-nil}
use Rattle.pipe_model.specs.declared.net.Net.{Net}
use Rattle.pipe_model.specs.declared.net.Strand.{Strand}
use Rattle.pipe_model.specs.declared.step.Entry.{Entry}
use Rattle.pipe_model.specs.Code.{worst_of}
use Rattle.pipe_model.specs.Event.{Event, has_ended, code_of, taken_from}
use Rattle.pipe_model.specs.Records.{lines, text}
use Rattle.pipe_model.specs.State.{State, Who, past}
use Rattle.pipe_model.specs.Straight.{selected_by}
use Rattle.pipe_model.specs.Licence.{licence, none_left}
use Rattle.pipe_model.specs.Play.{play, IsLegal, IsComplete}
use Rattle.pipe_model.specs.Reply.{reply, replied, console_from, files_from, code_from, waits_from}
use Rattle.pipe_model.specs.WellFormed.{IsWellFormed}
use Rattle.pipe_model.proofs.Lists.{at_some}
use Rattle.confluence_laws.proofs.Flow.{IsFlowing, all_flows}
use Rattle.confluence_laws.proofs.Progress.{has_ended_at, last_took}
use Rattle.net_graph.specs.Line.{strands_from, line_net}
use Rattle.call_meaning.proofs.LineStrands.{line_straight}

-- Along the strands

-- none waits where all have ended
none_wait : (st : State) (s : Who) (ps : List Strand) → ((j : ℕ) → j < length ps → has_ended (past st (s + j)) ≡ true) → waits_from st s ps ≡ []
none_wait st s [] ended = refl
none_wait st s (p ∷ ps) ended =
    let here : has_ended (past st s) ≡ true = subst (λ z. has_ended (past st z) ≡ true) (let e : s + 0 ≡ s = omega arith in e) (ended 0 (omega arith)) in
    rw here (none_wait st (suc s) ps (λ j lt. subst (λ z. has_ended (past st z) ≡ true) (let e : s + suc j ≡ suc s + j = omega arith in e) (ended (suc j) (omega (arith, lt)))))

-- the code is 0 where each is
zero_codes : (st : State) (s : Who) (ps : List Strand) → ((j : ℕ) → j < length ps → code_of (past st (s + j)) ≡ pos 0) → code_from st s ps ≡ pos 0
zero_codes st s [] codes = refl
zero_codes st s (p ∷ ps) codes =
    ap (λ z. worst_of z (code_from st (suc s) ps)) (subst (λ z. code_of (past st z) ≡ pos 0) (let e : s + 0 ≡ s = omega arith in e) (codes 0 (omega arith)))
    ∙ ap (worst_of (pos 0)) (zero_codes st (suc s) ps (λ j lt. subst (λ z. code_of (past st z) ≡ pos 0) (let e : s + suc j ≡ suc s + j = omega arith in e) (codes (suc j) (omega (arith, lt)))))

-- only the last strand keeps records
kept_from : (st : State) (k : ℕ) (strings : List (List ℕ)) → console_from st k (strands_from k strings) ≡ text (taken_from 0 (past st (k + length strings)))
kept_from st k [] = append-nil (text (taken_from 0 (past st k))) ∙ ap (λ z. text (taken_from 0 (past st z))) (let e : k ≡ k + 0 = omega arith in e)
kept_from st k (string ∷ strings) = kept_from st (suc k) strings ∙ ap (λ z. text (taken_from 0 (past st z))) (let e : suc k + length strings ≡ k + suc (length strings) = omega arith in e)

-- and none keeps a file
no_files : (st : State) (k : ℕ) (strings : List (List ℕ)) → files_from st k (strands_from k strings) ≡ []
no_files st k [] = refl
no_files st k (string ∷ strings) = no_files st (suc k) strings

module _ (bytes : List ℕ) (strings : List (List ℕ)) (formed : IsWellFormed (line_net bytes strings)) (es : List Entry) (legal : IsLegal (line_net bytes strings) es) where
  abbrev net : Net
  net = line_net bytes strings

  flowing : IsFlowing net bytes strings (play net es)
  flowing = all_flows net formed bytes strings (line_straight bytes strings) es legal

  -- each code is 0
  code_zero : (s : Who) → s < length net.strands → code_of (past (play net es) s) ≡ pos 0
  code_zero s lt = let p = at_some net.strands s lt in (flowing.stands s p.0 p.1).code

  module _ (complete : IsComplete net es) where
    nothing_left : (s k : ℕ) (e : Event) → licence net (play net es) none_left s k ≢ Some e
    nothing_left s k e may = complete (record { strand = s; stream = k }) (ap is_some may)

    ended : (s : Who) → s < length net.strands → has_ended (past (play net es) s) ≡ true
    ended s lt = has_ended_at net formed bytes strings (line_straight bytes strings) (play net es) flowing nothing_left s lt

    -- the last strand kept the text of the lines that hold every string
    pub line_took : text (taken_from 0 (past (play net es) (suc (length strings)))) ≡ text (selected_by strings (lines bytes))
    line_took = ap text (last_took net formed bytes strings (line_straight bytes strings) (play net es) flowing nothing_left)

    -- and this is the whole answer
    pub line_replies : reply net (play net es) ≡ record { console = text (selected_by strings (lines bytes)); files = []; code = pos 0; waits = [] }
    line_replies =
        ap (replied (play net es) net.strands) (none_wait (play net es) 0 net.strands (λ j lt. ended (0 + j) (omega (arith, lt))))
        ∙ (λ i. record {
          console = (kept_from (play net es) 1 strings ∙ ap (λ z. text (taken_from 0 (past (play net es) z))) (let e : 1 + length strings ≡ suc (length strings) = omega arith in e) ∙ line_took) i;
          files = no_files (play net es) 1 strings i;
          code = zero_codes (play net es) 0 net.strands (λ j lt. code_zero (0 + j) (omega (arith, lt))) i;
          waits = [];
        })
