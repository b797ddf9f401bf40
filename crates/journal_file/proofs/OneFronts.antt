-- A text begins with the lines of one list of entries, where no line of one more follows.
use Rattle.std.proofs.Common.{◌≡◌, ℕ, ◌+◌, ◌<◌, ◌⊎◌, inl, inr, List, [], ◌∷◌, ◌++◌, length, refl, sym, ap, ◌∙◌, arith, append_assoc, append-nil, length-append}
use Rattle.std.specs.List.{AllByRecursion}
use Rattle.pipe_model.specs.declared.step.Entry.{Entry}
use Rattle.journal_file.specs.Faults.{LacksFront, BeginsWith, IsFaultAmong, IsFaultBehind, IsFirstFault}
use Rattle.journal_file.specs.Text.{most_entries, IsEntry, IsJournal, first_line, entry_line, entry_lines, end_line, journal_text}
use Rattle.journal_file.proofs.Lines.{one_entry, no_entry_at_end}

-- the others are more entries, and the line of one stands in the rest
pub record GoesFurther (entries : List Entry) (rest : List ℕ) (others : List Entry) : Type 0 where
  pub entry : Entry
  pub behind : List ℕ
  pub is : IsEntry entry
  pub fewer : length entries < length others
  pub begins : rest ≡ entry_line entry ++ behind

further : (x y : Entry) (a b : List Entry) (r : List ℕ) → GoesFurther a r b → GoesFurther (x ∷ a) r (y ∷ b)
further x y a b r on = record { entry = on.entry; behind = on.behind; is = on.is; fewer = omega (arith, on.fewer); begins = on.begins }

abbrev OneFront : List Entry → List Entry → List ℕ → List ℕ → Type 0
OneFront a b r s = ((a ≡ b) × (r ≡ s)) ⊎ (GoesFurther a r b ⊎ GoesFurther b s a)

front_more : (x y : Entry) (a b : List Entry) (r s : List ℕ) → x ≡ y → OneFront a b r s → OneFront (x ∷ a) (y ∷ b) r s
front_more x y a b r s same (inl both) = inl (ap (λ entry. entry ∷ a) same ∙ ap (λ entries. y ∷ entries) both.0, both.1)
front_more x y a b r s same (inr (inl on)) = inr (inl (further x y a b r on))
front_more x y a b r s same (inr (inr on)) = inr (inr (further y x b a s on))

one_front : (a b : List Entry) (r s : List ℕ) → AllByRecursion IsEntry a → AllByRecursion IsEntry b → entry_lines a ++ r ≡ entry_lines b ++ s → OneFront a b r s
one_front [] [] r s p q same = inl (refl, same)
one_front [] (y ∷ b) r s p q same =
    inr (inl (record { entry = y; behind = entry_lines b ++ s; is = q.0; fewer = omega arith; begins = same ∙ append_assoc (entry_line y) (entry_lines b) s }))
one_front (x ∷ a) [] r s p q same =
    inr (inr (record { entry = x; behind = entry_lines a ++ r; is = p.0; fewer = omega arith; begins = sym same ∙ append_assoc (entry_line x) (entry_lines a) r }))
one_front (x ∷ a) (y ∷ b) r s p q same =
    let heads = one_entry x y (entry_lines a ++ r) (entry_lines b ++ s) p.0 q.0 (sym (append_assoc (entry_line x) (entry_lines a) r) ∙ same ∙ append_assoc (entry_line y) (entry_lines b) s) in
    front_more x y a b r s heads.0 (one_front a b r s p.1 q.1 heads.1)

-- no line of one more entry follows, or there may be no more
abbrev pub Stops : List Entry → List ℕ → Type 0
Stops entries rest = (entry : Entry) → IsEntry entry → length entries < most_entries → LacksFront rest (entry_line entry)

pub one_stop : (text : List ℕ) (a b : List Entry) (r s : List ℕ) → BeginsWith text a r → BeginsWith text b s → Stops a r → Stops b s → (a ≡ b) × (r ≡ s)
one_stop text a b r s p q ends stops =
    let whole : first_line ++ (entry_lines a ++ r) ≡ first_line ++ (entry_lines b ++ s) = sym p.spells ∙ q.spells in
    let lines : entry_lines a ++ r ≡ entry_lines b ++ s = cc in
    by_front (one_front a b r s p.journal.each q.journal.each lines)
  where
    by_front : OneFront a b r s → (a ≡ b) × (r ≡ s)
    by_front (inl both) = both
    by_front (inr (inl on)) = absurd (ends on.entry on.is (omega (arith, on.fewer, q.journal.few)) on.behind on.begins)
    by_front (inr (inr on)) = absurd (stops on.entry on.is (omega (arith, on.fewer, p.journal.few)) on.behind on.begins)

-- a journal's text and what stands behind it
pub journal_spelled : (entries : List Entry) (more : List ℕ) → journal_text entries ++ more ≡ first_line ++ (entry_lines entries ++ (end_line (length entries) ++ more))
journal_spelled entries more = ap (λ behind. first_line ++ behind) (append_assoc (entry_lines entries) (end_line (length entries)) more)

behind_begins : (text : List ℕ) (line : ℕ) (fault : IsFaultBehind text line) → BeginsWith text fault.entries (end_line (length fault.entries) ++ fault.more)
behind_begins text line fault = record { journal = fault.journal; spells = fault.spells ∙ journal_spelled fault.entries fault.more }

journal_begins : (entries : List Entry) → IsJournal entries → BeginsWith (journal_text entries) entries (end_line (length entries) ++ [])
journal_begins entries is = record { journal = is; spells = ap (λ last. first_line ++ (entry_lines entries ++ last)) (sym (append-nil (end_line (length entries)))) }

end_stops : (entries : List Entry) (more : List ℕ) → Stops entries (end_line (length entries) ++ more)
end_stops entries more entry is few = no_entry_at_end (length entries) more entry is

pub journals_same : (a b : List Entry) → IsJournal a → IsJournal b → journal_text a ≡ journal_text b → a ≡ b
journals_same a b p q same =
    let begins : BeginsWith (journal_text a) b (end_line (length b) ++ []) = record { journal = q; spells = same ∙ (journal_begins b q).spells } in
    (one_stop (journal_text a) a b _ _ (journal_begins a p) begins (end_stops a []) (end_stops b [])).0

among_behind : (text : List ℕ) (k line : ℕ) → IsFaultAmong text k → IsFaultBehind text line → ⊥
among_behind text k line among behind =
    let one = one_stop text among.entries behind.entries _ _ among.begins (behind_begins text line behind) among.no_line.no_entry (end_stops behind.entries behind.more) in
    among.no_line.no_end behind.more (one.1 ∙ ap (λ entries. end_line (length entries) ++ behind.more) (sym one.0))

pub journal_faultless : (entries : List Entry) (line : ℕ) → IsJournal entries → ¬ IsFirstFault (journal_text entries) line
journal_faultless entries line is (inl first) = first.1 (entry_lines entries ++ end_line (length entries)) refl
journal_faultless entries line is (inr (inl among)) =
    let one = one_stop (journal_text entries) among.entries entries _ _ among.begins (journal_begins entries is) among.no_line.no_entry (end_stops entries []) in
    among.no_line.no_end [] (one.1 ∙ ap (λ others. end_line (length others) ++ []) (sym one.0))
journal_faultless entries line is (inr (inr behind)) =
    let one = one_stop (journal_text entries) behind.entries entries _ _ (behind_begins (journal_text entries) line behind) (journal_begins entries is) (end_stops behind.entries behind.more) (end_stops entries []) in
    let sizes : length (end_line (length entries) ++ behind.more) ≡ length (end_line (length entries) ++ []) =
    ap (λ others. length (end_line (length others) ++ behind.more)) (sym one.0) ∙ ap length one.1 in
    omega (arith, behind.some, sizes, length-append (end_line (length entries)) behind.more, length-append (end_line (length entries)) [])

pub faults_same : (text : List ℕ) (k line : ℕ) → IsFirstFault text k → IsFirstFault text line → k ≡ line
faults_same text k line (inl first) (inl other) = first.0 ∙ sym other.0
faults_same text k line (inl first) (inr (inl among)) = absurd (first.1 _ among.begins.spells)
faults_same text k line (inl first) (inr (inr behind)) = absurd (first.1 _ (behind_begins text line behind).spells)
faults_same text k line (inr (inl among)) (inl first) = absurd (first.1 _ among.begins.spells)
faults_same text k line (inr (inl a)) (inr (inl b)) =
    let one = one_stop text a.entries b.entries _ _ a.begins b.begins a.no_line.no_entry b.no_line.no_entry in
    a.place ∙ ap (λ entries. length entries + 2) one.0 ∙ sym b.place
faults_same text k line (inr (inl among)) (inr (inr behind)) = absurd (among_behind text k line among behind)
faults_same text k line (inr (inr behind)) (inl first) = absurd (first.1 _ (behind_begins text k behind).spells)
faults_same text k line (inr (inr behind)) (inr (inl among)) = absurd (among_behind text line k among behind)
faults_same text k line (inr (inr a)) (inr (inr b)) =
    let one = one_stop text a.entries b.entries _ _ (behind_begins text k a) (behind_begins text line b) (end_stops a.entries a.more) (end_stops b.entries b.more) in
    a.place ∙ ap (λ entries. length entries + 3) one.0 ∙ sym b.place
