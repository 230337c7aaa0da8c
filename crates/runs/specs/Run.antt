-- A run of calls, whatever they are made on and whatever each is given: request K1, "Each must equal the
-- single calls made in order, stopping after the first refusal with that refusal's effects." Assumes nothing.
use Rattle.std.specs.Prelude.{ℕ, ◌+◌, ◌<◌, ◌≡◌, List, [], ◌∷◌, ◌++◌, length, take, eqb}
use Rattle.lists.specs.Choice.{choose}
use Rattle.answers.specs.Answers.{done}

-- one call: what it leaves, and 0 or the number of the refusal
pub record One (S : Type 0) : Type 0 where
  pub left : S
  pub answer : ℕ

-- its two parts put together
abbrev pub one : {S : Type 0} → S → ℕ → One S
one left answer = record { left = left; answer = answer }

-- "It answers the refusal, or 0, and how many items were done before it"
pub record Many (S : Type 0) : Type 0 where
  pub left : S
  pub answer : ℕ
  pub count : ℕ

-- its three parts put together
abbrev pub many : {S : Type 0} → S → ℕ → ℕ → Many S
many left answer count = record { left = left; answer = answer; count = count }

-- a run with n more items done in front of it
abbrev pub after : {S : Type 0} → ℕ → Many S → Many S
after n r = many r.left r.answer (n + r.count)

-- a call in front of the rest of a run: done, it counts one; refused, the run stops there
unfoldable pub first : {S : Type 0} → One S → Many S → Many S
first c rest = choose (eqb c.answer done) (after 1 rest) (many c.left c.answer 0)

-- the call with each item in order; "An empty run answers 0 and changes nothing"
unfoldable pub run_of : {S A : Type 0} → (S → A → One S) → S → List A → Many S
run_of call s [] = many s done 0
run_of call s (x ∷ rest) = first (call s x) (run_of call (call s x).left rest)

-- "the place of the first refused item": of a run that stopped at item n, the n before it were done whole, and
-- the run leaves and answers what the call with that item does
pub record StopsAt {S A : Type 0} (call : S → A → One S) (s : S) (l : List A) (n : ℕ) : Type 0 where
  pub item : A
  pub behind : List A
  pub parts : l ≡ take n l ++ (item ∷ behind)
  pub place : n < length l
  pub before : (run_of call s (take n l)).answer ≡ done
  pub refused : (call (run_of call s (take n l)).left item).answer ≡ done → ⊥
  pub whole : run_of call s l
      ≡ many (call (run_of call s (take n l)).left item).left (call (run_of call s (take n l)).left item).answer n
