-- A public call by its values, and what may be said of its contract. The contract is the call's own
-- `ensures`, as the check reads it in the source. Assumes nothing.
use Rattle.std.specs.Prelude.{◌≡◌, ◌↔◌}

-- the contract `Post`, of the lifetimes, the arguments, the answer and the arguments at exit; the values X
-- of the arguments; and the outcome O, the answer with every byte of each buffer that the call writes
pub record Call (X O : Type 0) : Type 1 where
  pub Lifetimes : Type 0
  pub Args : Lifetimes → Type 0
  pub Answer : Lifetimes → Type 0
  pub Exit : Lifetimes → Type 0
  pub Post : (κs : Lifetimes) → Args κs → Answer κs → Exit κs → Type 0
  pub input : (κs : Lifetimes) → Args κs → X
  pub outcome : (κs : Lifetimes) → Answer κs → Exit κs → O

-- a call by its contract, its input and its outcome
abbrev pub call_of : {X O K : Type 0} {I A E : K → Type 0} → ((κs : K) → I κs → A κs → E κs → Type 0)
    → ((κs : K) → I κs → X) → ((κs : K) → A κs → E κs → O) → Call X O
call_of {X} {O} {K} {I} {A} {E} Post input outcome =
    record { Lifetimes = K; Args = I; Answer = A; Exit = E; Post = Post; input = input; outcome = outcome }

-- the contract is the equation with a definition: it holds of an outcome exactly where that is the
-- defined one
pub record Tied {X O : Type 0} (c : Call X O) (def : X → O) : Type 0 where
  pub is : (κs : c.Lifetimes) (i : c.Args κs) (a : c.Answer κs) (e : c.Exit κs)
      → c.Post κs i a e ↔ (c.outcome κs a e ≡ def (c.input κs i))

-- a call of the input x that comes out as o meets the contract
pub record Meets {X O : Type 0} (c : Call X O) (x : X) (o : O) : Type 0 where
  pub lifetimes : c.Lifetimes
  pub args : c.Args lifetimes
  pub answer : c.Answer lifetimes
  pub exit : c.Exit lifetimes
  pub input : c.input lifetimes args ≡ x
  pub outcome : c.outcome lifetimes answer exit ≡ o
  pub post : c.Post lifetimes args answer exit

-- no two outcomes meet it for one input
abbrev pub OneOutcome : {X O : Type 0} → Call X O → Type 0
OneOutcome {X} {O} c = (x : X) (o p : O) → Meets c x o → Meets c x p → o ≡ p
