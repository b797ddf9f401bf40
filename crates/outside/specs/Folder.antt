-- The shelf of a folder's files: which names are paths, and what it counts.
use Rattle.std.specs.Prelude.{ℕ, ◌≢◌, List, All, IsUtf8}
use Rattle.outside.specs.declared.shelf.Fetched.{Fetched}
use Rattle.outside.specs.declared.shelf.Fetched.TheVariants as fetched
use Rattle.outside.specs.declared.shelf.Replaced.{Replaced}
use Rattle.outside.specs.declared.shelf.Replaced.TheVariants as replaced
use Rattle.outside.specs.Calls.{next_number}

-- the name is a path: text in UTF-8 without a NUL
abbrev pub IsPath : List ℕ → Type 0
IsPath name = All (λ byte. byte ≢ 0) name × IsUtf8 name

-- the most bytes of a file that is fetched
abbrev pub file_limit : ℕ
file_limit = 1073741824

-- a shelf: how many calls have failed, and how many replacements have wanted memory
pub record FolderCounts : Type 0 where
  pub faults : ℕ
  pub wants : ℕ

-- the count of faults after a fetch: one more after one that failed, up to its type's end
abbrev pub faults_after_fetch : ℕ → Fetched → ℕ
faults_after_fetch faults (fetched.Found bytes) = faults
faults_after_fetch faults fetched.Absent = faults
faults_after_fetch faults fetched.Failed = next_number faults
faults_after_fetch faults fetched.NoMemory = faults

-- the count of faults after a replacement, likewise
abbrev pub faults_after_replace : ℕ → Replaced → ℕ
faults_after_replace faults replaced.Stored = faults
faults_after_replace faults replaced.Failed = next_number faults
faults_after_replace faults replaced.NoMemory = faults

-- the count of those that wanted memory after a replacement: one more after one that did, up to its type's end
abbrev pub wants_after_replace : ℕ → Replaced → ℕ
wants_after_replace wants replaced.Stored = wants
wants_after_replace wants replaced.Failed = wants
wants_after_replace wants replaced.NoMemory = next_number wants
