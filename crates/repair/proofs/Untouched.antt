-- Words that a step does not name stay as they are. K7's step and steps 2, 3 and 5 name the layers' words 4+6n,
-- step 4 names 6+6n and 7+6n, and step 1 reserved bits. Assumes nothing.
use mathlib.Core.Path.{◌≡◌, refl, ◌∙◌}
use mathlib.Core.List.{List}
use Prim.Native.Nat.{ℕ, ◌+◌, ◌*◌, ◌<◌}
use native.Mathlib.Omega.{arith}
use lib.Dec.{eqb}
use lib.ListN.{get_or, set}
use lib.Seq.{get_or-set_other}
use Rattle.lists.specs.Runs.{run}
use Rattle.lists.proofs.Choice.{choose-keeps}
use Rattle.lists.proofs.Run.{run-hands}
use Rattle.lists.proofs.Tab.{get_d-tab}
use Rattle.words.specs.Fields.{width_of, height_of, layer_of}
use Rattle.words.specs.Check.{Plain, clash_below}
use Rattle.words.specs.Change.{pair_word, with_off, with_bytes, with_depth, with_pair}
use Rattle.repair.specs.Steps.{cleared_at, cleared, is_twofold, one_kind_at, one_kind, is_empty, empty_off, empties_off}
use Rattle.repair.specs.Steps.{is_large, large_off, larges_off, place_in, fit_in, fit_at, fit, spread_at, spread}
use Rattle.repair.specs.Steps.{placed, mend_of}

-- word i is none of the layers' words j + 6n
abbrev pub None : ℕ → ℕ → Type 0
None j i = (n : ℕ) → i ≡ j + 6 * n → ⊥

module _ (i : ℕ) where
  all_same : (f : ℕ → List ℕ → List ℕ) → ((n : ℕ) (v : List ℕ) → get_or (f n v) i 0 ≡ get_or v i 0) → (w : List ℕ)
      → get_or (run 0 8 f w) i 0 ≡ get_or w i 0
  all_same f h w = run-hands (λ n v. get_or v i 0 ≡ get_or w i 0) 8 f w refl (λ n v _ e. h n v ∙ e)

  -- 1
  pub clear-untouched : (w : List ℕ) → i < 52 → Plain w i → get_or (cleared w) i 0 ≡ get_or w i 0
  unfolding cleared cleared_at
  clear-untouched w h p = get_d-tab 52 (cleared_at w) i h ∙ rw p (omega arith)

  module _ (kinds : None 4 i) where
    -- K7's
    pub kinds-untouched : (w : List ℕ) → get_or (one_kind w) i 0 ≡ get_or w i 0
    unfolding one_kind one_kind_at with_bytes
    kinds-untouched =
        all_same one_kind_at (λ n v. choose-keeps (λ (x : List ℕ). get_or x i 0 ≡ get_or v i 0) (is_twofold (layer_of v n)) _ v
        (λ _. get_or-set_other v (4 + 6 * n) i _ 0 (kinds n)) (λ _. refl))

    off-same : (v : List ℕ) (n : ℕ) → get_or (with_off v n) i 0 ≡ get_or v i 0
    unfolding with_off
    off-same v n = get_or-set_other v (4 + 6 * n) i _ 0 (kinds n)

    -- 2
    pub empties-untouched : (w : List ℕ) → get_or (empties_off w) i 0 ≡ get_or w i 0
    unfolding empties_off empty_off
    empties-untouched =
        all_same empty_off (λ n v. choose-keeps (λ (x : List ℕ). get_or x i 0 ≡ get_or v i 0) (is_empty (layer_of v n)) _ v
        (λ _. off-same v n) (λ _. refl))

    -- 3
    pub larges-untouched : (w : List ℕ) → get_or (larges_off w) i 0 ≡ get_or w i 0
    unfolding larges_off large_off
    larges-untouched =
        all_same large_off (λ n v. choose-keeps (λ (x : List ℕ). get_or x i 0 ≡ get_or v i 0)
        (is_large (width_of v) (height_of v) (layer_of v n)) _ v (λ _. off-same v n) (λ _. refl))

    -- 5
    pub spread-untouched : (w : List ℕ) → get_or (spread w) i 0 ≡ get_or w i 0
    unfolding spread spread_at with_depth
    spread-untouched w =
        all_same (spread_at w) (λ n v. choose-keeps (λ (x : List ℕ). get_or x i 0 ≡ get_or v i 0)
        (eqb (clash_below v n) 0) v _ (λ _. refl) (λ _. get_or-set_other v (4 + 6 * n) i _ 0 (kinds n))) w

  -- 4
  pub fit-untouched : None 6 i → None 7 i → (w : List ℕ) → get_or (fit w) i 0 ≡ get_or w i 0
  unfolding fit fit_at fit_in with_pair
  fit-untouched places sizes =
      all_same fit_at (λ n v. choose-keeps (λ (x : List ℕ). get_or x i 0 ≡ get_or v i 0) (layer_of v n).on _ v
      (λ _. let l = layer_of v n in
      let p : List ℕ = set v (6 + 6 * n) (pair_word (get_or v (6 + 6 * n) 0)
      (place_in (width_of v) l.x l.width) (place_in (height_of v) l.y l.height)) in
      get_or-set_other p (7 + 6 * n) i _ 0 (sizes n) ∙ get_or-set_other v (6 + 6 * n) i _ 0 (places n))
      (λ _. refl))

  -- all of them: a word that none but 1 names loses its reserved bits, and has it none it stays
  module _ (kinds : None 4 i) (places : None 6 i) (sizes : None 7 i) (w : List ℕ) (h : i < 52) where
    pub mend-unnamed : get_or (mend_of w) i 0 ≡ cleared_at w i
    unfolding mend_of placed cleared
    mend-unnamed =
        spread-untouched kinds (placed w) ∙ fit-untouched places sizes _ ∙ larges-untouched kinds _
        ∙ empties-untouched kinds _ ∙ kinds-untouched kinds _ ∙ get_d-tab 52 (cleared_at w) i h

    pub mend-untouched : Plain w i → get_or (mend_of w) i 0 ≡ get_or w i 0
    unfolding cleared_at
    mend-untouched p = mend-unnamed ∙ rw p (omega arith)
