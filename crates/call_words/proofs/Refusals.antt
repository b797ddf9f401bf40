-- What clap's answer says of the command that words mean.
use Rattle.std.proofs.Common.{◌≡◌, ◌∙◌, List, [], ◌∷◌, inl, inr, refl, subst, sym, true, ap, codes}
use Rattle.std.specs.Prelude.{Option, Some, None, Ok, Err, IfOk, IfErr}
use Rattle.std.specs.declared.result.Result.{Result}
use Rattle.clap.specs.Words.{App, HasMatchesOf, Row, Text, first_of, first_value, fault_of, found_of, is_simple, kind_of, matches_of, rows_of, is_simple_and_free}
use Rattle.clap.specs.Kinds.{HasKind, Kinds}
use Rattle.clap.specs.declared.error.Error.{Error}
use Rattle.clap.specs.declared.error.kind.ErrorKind.TheVariants.{OutOfMemory}
use Rattle.clap.specs.declared.parser.matches.ArgMatches.{ArgMatches}
use Rattle.clap.specs.declared.parser.matches.Found.{Found}
use Rattle.clap.proofs.OnLiterals.{clap_on_literals}
use Rattle.clap.proofs.WalkLemmas.{first_value-rows}
use Rattle.call_words.specs.Command.{IsFaulty, app, command_of, demanded, given_by, unless_faulty}
use Rattle.call_words.specs.Gives.{Gives}
use Rattle.call_words.specs.declared.command.Command.{Command}
use Rattle.call_words.specs.declared.command.WordsFault.{WordsFault}
use Rattle.call_words.specs.declared.command.WordsFault.TheVariants.{Usage, NoMemory}

pub app_is_simple : is_simple_and_free app ≡ true
unfolding clap_on_literals
app_is_simple = refl

-- an error that isn't want of memory is a fault that clap finds
pub refused_by : (kinds : Kinds) (error : Error) (fault : WordsFault) → HasKind kinds error → (kind_of error ≡ OutOfMemory → fault ≡ NoMemory) → fault ≡ Usage → IsFaulty kinds
refused_by [] error fault (inl memory) told usage = let clash : NoMemory ≡ Usage = sym (told memory) ∙ usage in cc
refused_by [] error fault (inr none) told usage = absurd none
refused_by (kind ∷ kinds) error fault has told usage = tt

-- the same of a command as it was built
pub refused_at : (made : App) (words : List Text) (error : Error) (fault : WordsFault) → made ≡ app → (is_simple_and_free made ≡ true → HasKind (fault_of made words) error) → (kind_of error ≡ OutOfMemory → fault ≡ NoMemory) → fault ≡ Usage → IsFaulty (fault_of app words)
refused_at made words error fault same has =
    refused_by (fault_of app words) error fault (subst (λ (a : App). is_simple_and_free a ≡ true → HasKind (fault_of a words) error) same has app_is_simple)

-- the matches of a command as it was built are those of the command that it equals
pub rows_at : (made wanted : App) (words : List Text) (matches : ArgMatches) → made ≡ wanted → is_simple wanted ≡ true → HasMatchesOf made words matches → rows_of (found_of matches) ≡ matches_of wanted words
rows_at made wanted words matches same simple has = (subst (λ (a : App). HasMatchesOf a words matches) same has simple).0

pub none_where_faulty : (words : List Text) → IsFaulty (fault_of app words) → command_of words ≡ None
none_where_faulty words faulty = by_kinds (fault_of app words) _ faulty
  where
    by_kinds : (kinds : Kinds) (command : Option Command) → IsFaulty kinds → unless_faulty kinds command ≡ None
    by_kinds [] command faulty = elim faulty [ ]
    by_kinds (kind ∷ kinds) command faulty = refl

same_given : (f g : Text → Option Text) → ((id : Text) → f id ≡ g id) → given_by f ≡ given_by g
same_given f g same = rw (same (codes "spec"), same (codes "workers"), same (codes "steps"), same (codes "trace"), same (codes "check"), same (codes "sample"), same (codes "sets"), same (codes "lint")) refl

-- the command of words in which clap found these matches
pub read_of : (words : List Text) (found : Found) → fault_of app words ≡ [] → rows_of found ≡ matches_of app words → command_of words ≡ demanded (given_by (first_value found))
read_of words found sound rows =
    let whole : command_of words ≡ demanded (given_by (λ id. first_of id (matches_of app words))) = rw sound refl in
    whole ∙ ap (λ (left : List Row). demanded (given_by (λ id. first_of id left))) (sym rows) ∙ ap demanded (sym (same_given (first_value found) (λ id. first_of id (rows_of found)) (first_value-rows found)))

pub gives_if_ok : {T : Type 0} (value : Option T) (result : Result T WordsFault) (whole : Option T) → whole ≡ value → Gives value result → IfOk result (λ given. whole ≡ Some given)
gives_if_ok value (Ok given) whole same gives = same ∙ gives
gives_if_ok value (Err fault) whole same gives = tt

pub gives_if_err : {T : Type 0} (value : Option T) (result : Result T WordsFault) (whole : Option T) → whole ≡ value → Gives value result → IfErr result (λ fault. fault ≡ Usage → whole ≡ None)
gives_if_err value (Ok given) whole same gives = tt
gives_if_err value (Err Usage) whole same gives = λ usage. same ∙ gives
gives_if_err value (Err NoMemory) whole same gives = λ usage. cc
