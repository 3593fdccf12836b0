-- The copies as words, and what is returned. Assumes nothing.
use Rattle.std.specs.Prelude.{◌≡◌, ℕ, Bool, true, [], ◌∷◌, ◌+◌, ◌*◌, ◌-◌, ◌^◌, min, cond, ◌&&◌, List, length, get_or, eqb, leb, ltb}
use Rattle.model_choice.specs.Choice.{StandbyCopy, chosen}
use Rattle.standby_choice.specs.declared.CopyState.{CopyState}
use Rattle.standby_choice.specs.declared.lent.LentCopy.{LentCopy}
use Rattle.standby_choice.specs.Choice.{copy_of, is_sound}

-- ---- five copies of six words: whether it is listed, whether it is checked, its epoch, and its store's S, C and M

abbrev pub listed_flag : ℕ → ℕ
listed_flag w = cond (eqb w 0) 0 1

-- a word of a shape beyond 32 bits counts as the greatest
abbrev pub described_at : List ℕ → ℕ → CopyState
described_at ws at =
    record {
      listed = listed_flag (get_or ws at 0);
      checked = listed_flag (get_or ws (at + 1) 0);
      epoch = record { 0 = get_or ws (at + 2) 0 };
      shape = record { places = min (get_or ws (at + 3) 0) 4294967295; bytes = min (get_or ws (at + 4) 0) 4294967295; messages = min (get_or ws (at + 5) 0) 4294967295 };
    }

-- a copy by its words from `at` on, with its store's areas
pub record LentIs (ws : List ℕ) (at : ℕ) (w b : List ℕ) (c : LentCopy) : Type 0 where
  pub copy : c.copy ≡ described_at ws at
  pub words : c.words.now ≡ w
  pub bytes : c.bytes.now ≡ b

-- ---- what is returned

-- a refusal n as n × 2^40; else 2^63 and the number of the copy, which is below 2^62
abbrev pub choice_code : ℕ → ℕ → ℕ
choice_code refusal copy = cond (eqb refusal 0) (cond (ltb copy (2 ^ 62)) (2 ^ 63 + copy) (2 ^ 64 - 1)) (refusal * 2 ^ 40)

module _ (ws w0 b0 w1 b1 w2 b2 w3 b3 w4 b4 : List ℕ) where
  -- the five copies that the words and the areas stand for
  abbrev pub copies_in : List StandbyCopy
  copies_in = copy_of (described_at ws 0) w0 b0 ∷ copy_of (described_at ws 6) w1 b1 ∷ copy_of (described_at ws 12) w2 b2 ∷ copy_of (described_at ws 18) w3 b3 ∷ copy_of (described_at ws 24) w4 b4 ∷ []

  -- the areas of each that is listed keep the rules
  abbrev pub are_sound_in : Bool
  are_sound_in =
      is_sound (described_at ws 0) w0 b0
      && (is_sound (described_at ws 6) w1 b1 && (is_sound (described_at ws 12) w2 b2 && (is_sound (described_at ws 18) w3 b3 && (is_sound (described_at ws 24) w4 b4 && true))))

  -- 25 for fewer than 30 words, or if a listed copy's store breaks its rules; 39 where none fits; else the copy that is taken
  abbrev pub returned : ℕ
  returned = cond (leb 30 (length ws) && are_sound_in) (cond (eqb (chosen copies_in) 5) (choice_code 39 0) (choice_code 0 (chosen copies_in))) (choice_code 25 0)
