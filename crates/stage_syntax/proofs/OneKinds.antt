-- A name and an argument are one kind of stage, or have one fault.
use Rattle.std.proofs.Common.{◌≡◌, ℕ, Bool, List, [], ◌∷◌, ◌++◌, ◌⊎◌, length, Some, None, refl, sym, ap, ◌∙◌, subst, Option, inl, inr}
use Rattle.pipe_model.specs.declared.kind.Kind.{Kind}
use Rattle.argument_parts.proofs.OneParts.{next_or_none, not_at_end, one_next, one_no_next}
use Rattle.stage_syntax.specs.Arg.{ArgText}
use Rattle.stage_syntax.specs.Kinds.{IsArgFault, IsKind, placed}
use Rattle.stage_syntax.specs.Names.{arguments_of}
use Rattle.argument_parts.specs.Parts.{IsAtEnd, IsNext, IsNoNext}
use Rattle.stage_syntax.specs.Rows.{Arguments, Fails, HasFault, Makes, Reads, Row}
use Rattle.stage_syntax.specs.Rows.Arguments.{OfParts, OfText}
use Rattle.stage_syntax.specs.Rows.Fails.{FailsOn, Lacks, Stops, Wrong}
use Rattle.stage_syntax.specs.Rows.Makes.{Ended, GoesOn}
use Rattle.argument_parts.specs.declared.fault.ArgFault.{ArgFault}
use Rattle.argument_parts.specs.declared.fault.FaultKind.TheVariants.{Missing}
use Rattle.argument_parts.specs.declared.part.TextFault.{TextFault}
use Rattle.argument_parts.specs.declared.part.Value.{Value}

-- the next argument in another spelling
moved : (P : Value → List ℕ → List ℕ → Type 0) (value other : Value) (rest after front next : List ℕ) → (value ≡ other) × (rest ≡ after) × (front ≡ next) → P value rest front → P other after next
moved P value other rest after front next same is = subst (P other after) same.2 (subst (λ rest. P other rest front) same.1 (subst (λ value. P value rest front) same.0 is))

module _ (row : Row) where
  -- at the end the kind is made of the arguments that were read
  ended_made : {values : List Value} {lefts text : List ℕ} {b : Kind} → (a : Kind) → IsAtEnd text → row.kind values ≡ Some a → Makes row values lefts text b → a ≡ b
  ended_made a ended made (Ended values lefts text b too other) = cc
  ended_made a ended made (GoesOn values lefts text value rest b next right more) = absurd (not_at_end text next.front ended next.unblanked next.some)

  -- where an argument comes, it isn't wrong, and those after it make the kind
  next_made : {values : List Value} {lefts text : List ℕ} {a : Kind} → (value : Value) (rest : List ℕ) (next : IsNext (row.next values) text value rest) → Makes row values lefts text a
      → (row.wrong (values ++ value ∷ []) (lefts ++ length next.front ∷ []) ≡ None) × Makes row (values ++ value ∷ []) (lefts ++ length next.front ∷ []) rest a
  next_made value rest next (Ended values lefts text a ended made) = absurd (not_at_end text next.front ended next.unblanked next.some)
  next_made value rest next (GoesOn values lefts text other after a too right more) =
      let same = one_next (row.next values) text other value after rest too next in (
        moved (λ value rest front. row.wrong (values ++ value ∷ []) (lefts ++ length front ∷ []) ≡ None) other value after rest too.front next.front same right,
        moved (λ value rest front. Makes row (values ++ value ∷ []) (lefts ++ length front ∷ []) rest a) other value after rest too.front next.front same more,
      )

  one_made : {values : List Value} {lefts text : List ℕ} {a b : Kind} → Makes row values lefts text a → Makes row values lefts text b → a ≡ b
  one_made (Ended values lefts text a ended made) other = ended_made a ended made other
  one_made (GoesOn values lefts text value rest a next right more) other = one_made more (next_made value rest next other).1

  -- at the end a required argument is missing
  ended_fails : {values : List Value} {lefts text : List ℕ} {fault : TextFault} → IsAtEnd text → Fails row values lefts text fault → (row.kind values ≡ None) × (fault ≡ record { left = 0; kind = Missing })
  ended_fails ended (Lacks values lefts text too none) = (none, refl)
  ended_fails ended (Stops values lefts text fault stop) = absurd (not_at_end text stop.front ended stop.unblanked stop.some)
  ended_fails ended (Wrong values lefts text value rest fault next wrong) = absurd (not_at_end text next.front ended next.unblanked next.some)
  ended_fails ended (FailsOn values lefts text value rest fault next right more) = absurd (not_at_end text next.front ended next.unblanked next.some)

  -- where an argument comes, it is wrong, or the fault is after it
  next_fails : {values : List Value} {lefts text : List ℕ} {fault : TextFault} → (value : Value) (rest : List ℕ) (next : IsNext (row.next values) text value rest) → Fails row values lefts text fault
      → (row.wrong (values ++ value ∷ []) (lefts ++ length next.front ∷ []) ≡ Some fault)
      ⊎ ((row.wrong (values ++ value ∷ []) (lefts ++ length next.front ∷ []) ≡ None) × Fails row (values ++ value ∷ []) (lefts ++ length next.front ∷ []) rest fault)
  next_fails value rest next (Lacks values lefts text ended none) = absurd (not_at_end text next.front ended next.unblanked next.some)
  next_fails value rest next (Stops values lefts text fault stop) = absurd (next_or_none (row.next values) text value rest fault next stop)
  next_fails value rest next (Wrong values lefts text other after fault too wrong) =
      let same = one_next (row.next values) text other value after rest too next in
      inl (moved (λ value rest front. row.wrong (values ++ value ∷ []) (lefts ++ length front ∷ []) ≡ Some fault) other value after rest too.front next.front same wrong)
  next_fails value rest next (FailsOn values lefts text other after fault too right more) =
      let same = one_next (row.next values) text other value after rest too next in inr (
        moved (λ value rest front. row.wrong (values ++ value ∷ []) (lefts ++ length front ∷ []) ≡ None) other value after rest too.front next.front same right,
        moved (λ value rest front. Fails row (values ++ value ∷ []) (lefts ++ length front ∷ []) rest fault) other value after rest too.front next.front same more,
      )

  -- where no argument comes that may, that is the fault
  stops_fails : {values : List Value} {lefts text : List ℕ} {b : TextFault} → (a : TextFault) → IsNoNext (row.next values) text a → Fails row values lefts text b → a ≡ b
  stops_fails a stop (Lacks values lefts text ended none) = absurd (not_at_end text stop.front ended stop.unblanked stop.some)
  stops_fails a stop (Stops values lefts text b too) = one_no_next (row.next values) text a b stop too
  stops_fails a stop (Wrong values lefts text value rest b next wrong) = absurd (next_or_none (row.next values) text value rest a next stop)
  stops_fails a stop (FailsOn values lefts text value rest b next right more) = absurd (next_or_none (row.next values) text value rest a next stop)

  -- a wrong argument has that fault
  wrong_fails : (checked : Option TextFault) (a b : TextFault) (More : Type 0) → checked ≡ Some a → (checked ≡ Some b) ⊎ ((checked ≡ None) × More) → a ≡ b
  wrong_fails checked a b More is (inl too) = cc
  wrong_fails checked a b More is (inr right) = let none = right.0 in cc

  right_fails : (checked : Option TextFault) (b : TextFault) (More : Type 0) → checked ≡ None → (checked ≡ Some b) ⊎ ((checked ≡ None) × More) → More
  right_fails checked b More is (inl too) = cc
  right_fails checked b More is (inr right) = right.1

  made_or_fails : {values : List Value} {lefts text : List ℕ} {kind : Kind} {fault : TextFault} → Makes row values lefts text kind → ¬ Fails row values lefts text fault
  made_or_fails (Ended values lefts text kind ended made) failed = let none = (ended_fails ended failed).0 in cc
  made_or_fails {fault = fault} (GoesOn values lefts text value rest kind next right more) failed = made_or_fails more (right_fails _ fault _ right (next_fails value rest next failed))

  one_fails : {values : List Value} {lefts text : List ℕ} {a b : TextFault} → Fails row values lefts text a → Fails row values lefts text b → a ≡ b
  one_fails (Lacks values lefts text ended none) other = sym (ended_fails ended other).1
  one_fails (Stops values lefts text a stop) other = stops_fails a stop other
  one_fails {b = b} (Wrong values lefts text value rest a next wrong) other = wrong_fails _ a b _ wrong (next_fails value rest next other)
  one_fails {b = b} (FailsOn values lefts text value rest a next right more) other = one_fails more (right_fails _ b _ right (next_fails value rest next other))

-- a text is read in one way, or has one fault
one_read : (arguments : Arguments) (text : List ℕ) (a b : Kind) → Reads arguments text a → Reads arguments text b → a ≡ b
one_read (OfText make) text a b is too = cc
one_read (OfParts row) text a b is too = one_made row is too

read_faultless : (arguments : Arguments) (text : List ℕ) (kind : Kind) (fault : TextFault) → Reads arguments text kind → ¬ HasFault arguments text fault
read_faultless (OfText make) text kind fault is none = let lacks = none.0 in cc
read_faultless (OfParts row) text kind fault is fails = made_or_fails row is fails

one_text_fault : (arguments : Arguments) (text : List ℕ) (a b : TextFault) → HasFault arguments text a → HasFault arguments text b → a ≡ b
one_text_fault (OfText make) text a b is too = is.1 ∙ sym too.1
one_text_fault (OfParts row) text a b is too = one_fails row is too

module _ (name : List ℕ) (arg : ArgText) (first : Bool) where
  -- a name has the arguments of one stage
  one_row : (a b : Arguments) → arguments_of name first ≡ Some a → arguments_of name first ≡ Some b → a ≡ b
  one_row a b is too = let same = sym is ∙ too in cc

  pub kinds_same : (a b : Kind) → IsKind name arg first a → IsKind name arg first b → a ≡ b
  kinds_same a b is too = one_read too.arguments arg.bytes a b (subst (λ arguments. Reads arguments arg.bytes a) (one_row is.arguments too.arguments is.named too.named) is.reads) too.reads

  pub kind_known : (kind : Kind) → IsKind name arg first kind → ¬ (arguments_of name first ≡ None)
  kind_known kind is unknown = let none = sym is.named ∙ unknown in cc

  pub kind_faultless : (kind : Kind) (fault : ArgFault) → IsKind name arg first kind → ¬ IsArgFault name arg first fault
  kind_faultless kind fault is stop =
      read_faultless stop.arguments arg.bytes kind stop.inside (subst (λ arguments. Reads arguments arg.bytes kind) (one_row is.arguments stop.arguments is.named stop.named) is.reads) stop.fails

  pub faults_same : (a b : ArgFault) → IsArgFault name arg first a → IsArgFault name arg first b → a ≡ b
  faults_same a b is too =
      is.fault_is
      ∙ ap (placed arg) (one_text_fault too.arguments arg.bytes is.inside too.inside (subst (λ arguments. HasFault arguments arg.bytes is.inside) (one_row is.arguments too.arguments is.named too.named) is.fails) too.fails)
      ∙ sym too.fault_is
