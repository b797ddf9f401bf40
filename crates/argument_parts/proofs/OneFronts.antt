-- What a word before a range says is one.
use Rattle.std.proofs.Common.{◌≡◌, ℕ, List, [], get_or, codes, refl, ap, arith, inl, inr}
use Rattle.std.specs.Str.{str_to_ascii_lowercase}
use Rattle.pipe_model.specs.declared.range.Span.{Span}
use Rattle.pipe_model.specs.declared.range.Span.TheVariants.{Columns, Words, Fields}
use Rattle.argument_parts.specs.SpanNames.{IsSpanName}

-- a word that says what is counted isn't empty
pub no_empty_name : (span : Span) → ¬ IsSpanName [] span
no_empty_name Columns names = names
no_empty_name Words (inl is) = cc
no_empty_name Words (inr (inl is)) = cc
no_empty_name Words (inr (inr is)) = cc
no_empty_name Fields (inl is) = cc
no_empty_name Fields (inr (inl is)) = cc
no_empty_name Fields (inr (inr is)) = cc

-- a word in lower case has one first byte
begins_as : (name lower : List ℕ) → str_to_ascii_lowercase name ≡ lower → get_or (str_to_ascii_lowercase name) 0 0 ≡ get_or lower 0 0
begins_as name lower is = ap (λ bytes. get_or bytes 0 0) is

pub words_begin : (name : List ℕ) → IsSpanName name Words → get_or (str_to_ascii_lowercase name) 0 0 ≡ 119
words_begin name (inl is) = begins_as name (codes "w") is
words_begin name (inr (inl is)) = begins_as name (codes "word") is
words_begin name (inr (inr is)) = begins_as name (codes "words") is

pub fields_begin : (name : List ℕ) → IsSpanName name Fields → get_or (str_to_ascii_lowercase name) 0 0 ≡ 102
fields_begin name (inl is) = begins_as name (codes "f") is
fields_begin name (inr (inl is)) = begins_as name (codes "field") is
fields_begin name (inr (inr is)) = begins_as name (codes "fields") is

not_both_names : (name : List ℕ) → IsSpanName name Words → ¬ IsSpanName name Fields
not_both_names name words fields = omega (arith, words_begin name words, fields_begin name fields)

-- a word says one thing
pub one_span : (name : List ℕ) (a b : Span) → IsSpanName name a → IsSpanName name b → a ≡ b
one_span name Columns b first second = absurd first
one_span name Words Columns first second = absurd second
one_span name Words Words first second = refl
one_span name Words Fields first second = absurd (not_both_names name first second)
one_span name Fields Columns first second = absurd second
one_span name Fields Words first second = absurd (not_both_names name second first)
one_span name Fields Fields first second = refl
