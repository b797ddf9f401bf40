-- A journal is either legal, and then complete or not, or it has one first entry that isn't licensed.
use Rattle.std.proofs.Common.{◌≡◌, Bool, true, false, List, [], ◌∷◌, ◌++◌, suc, length, refl, sym, ◌∙◌, ap, subst}
use Rattle.std.specs.Prelude.{◌↔◌}
use Rattle.pipe_model.specs.declared.net.Net.{Net}
use Rattle.pipe_model.specs.declared.step.Entry.{Entry}
use Rattle.pipe_model.specs.Play.{play_from, step, IsLegal, IsLegalFrom, IsLicensed}
use Rattle.pipe_model.specs.State.{State, nothing_yet}
use Rattle.journal_file.specs.declared.checking.Checked.{Checked}
use Rattle.journal_file.specs.declared.checking.Checked.TheVariants.{Legal, Illegal}
use Rattle.journal_file.specs.Judged.{IsFirstIllegal, Judges}

-- each entry of a legal list is licensed after those before it
legal_at : (net : Net) (st : State) (before more : List Entry) (e : Entry) → IsLegalFrom net st (before ++ e ∷ more) → IsLicensed net (play_from net st before) e
legal_at net st [] more e legal = legal.0
legal_at net st (x ∷ before) more e legal = legal_at net (step net st x) before more e legal.1

-- two places that are each the first without a licence are one
one_place : (net : Net) (st : State) (front other rest others : List Entry) (x y : Entry) → front ++ x ∷ rest ≡ other ++ y ∷ others
    → IsLegalFrom net st front → ¬ IsLicensed net (play_from net st front) x → IsLegalFrom net st other → ¬ IsLicensed net (play_from net st other) y → length front ≡ length other
one_place net st [] [] rest others x y same legal never legal' never' = refl
one_place net st [] (b ∷ other) rest others x y same legal never legal' never' =
    let here : b ≡ x = cc in
    absurd (never (subst (IsLicensed net st) here legal'.0))
one_place net st (a ∷ front) [] rest others x y same legal never legal' never' =
    let here : a ≡ y = cc in
    absurd (never' (subst (IsLicensed net st) here legal.0))
one_place net st (a ∷ front) (b ∷ other) rest others x y same legal never legal' never' =
    let here : b ≡ a = cc in
    let behind : front ++ x ∷ rest ≡ other ++ y ∷ others = cc in
    let after = subst (λ z. IsLegalFrom net (step net st z) other) here legal'.1 in
    let without = subst (λ z. ¬ IsLicensed net (play_from net (step net st z) other) y) here never' in
    ap suc (one_place net (step net st a) front other rest others x y behind legal.1 never after without)

not_both : (net : Net) (journal : List Entry) (place : _) → IsLegal net journal → IsFirstIllegal net journal place → ⊥
not_both net journal place legal first = first.unlicensed (legal_at net nothing_yet first.before first.more first.entry (subst (IsLegal net) first.journal_is legal))

one_truth : {P : Type 0} (a b : Bool) → ((a ≡ true) ↔ P) → ((b ≡ true) ↔ P) → a ≡ b
one_truth true b p q = sym (q.1 (p.0 refl))
one_truth false true p q = p.1 (q.0 refl)
one_truth false false p q = refl

pub one_judgement : (net : Net) (journal : List Entry) (a b : Checked) → Judges net journal a → Judges net journal b → a ≡ b
one_judgement net journal (Legal x) (Legal y) p q = ap Legal (one_truth x y p.1 q.1)
one_judgement net journal (Legal x) (Illegal k) p q = absurd (not_both net journal k p.0 q)
one_judgement net journal (Illegal j) (Legal y) p q = absurd (not_both net journal j q.0 p)
one_judgement net journal (Illegal j) (Illegal k) p q =
    ap Illegal (p.place_is ∙ ap suc (one_place net nothing_yet p.before q.before p.more q.more p.entry q.entry (sym p.journal_is ∙ q.journal_is) p.legal p.unlicensed q.legal q.unlicensed) ∙ sym q.place_is)
