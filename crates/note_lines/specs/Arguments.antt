-- Numbers as they are typed: decimal digits, the first the highest (document 02, Q-4). Definitions only.
use Rattle.std.specs.Prelude.{Bool, true, ◌&&◌, cond, List, [], ◌∷◌, ℕ, ◌+◌, ◌-◌, ◌*◌, leb, Option, Some, None, unwrap_or}
use Rattle.pcm.specs.declared.PcmFormat.{PcmFormat}

-- 0 to 9
abbrev pub is_digit : ℕ → Bool
is_digit b = leb 0x30 b && leb b 0x39

abbrev pub all_digits : List ℕ → Bool
all_digits [] = true
all_digits (b ∷ text) = is_digit b && all_digits text

-- the number that digits spell after those of v
unfoldable pub value_after : ℕ → List ℕ → ℕ
value_after v [] = v
value_after v (b ∷ text) = value_after (10 * v + (b - 0x30)) text

-- where v was spelled so far: the number, if there are but digits and it is at most what its field holds
unfoldable pub number_after : ℕ → ℕ → List ℕ → Option ℕ
number_after most v text = cond (all_digits text && leb (value_after v text) most) (Some (value_after v text)) None

-- else 0, which is no rate and no channel count
abbrev pub field_of : ℕ → List ℕ → ℕ
field_of most text = unwrap_or (number_after most 0 text) 0

-- a rate of 32 bits, a channel count of 16
abbrev pub format_of : List ℕ → List ℕ → PcmFormat
format_of rate channels = record { rate = field_of 0xffffffff rate; channels = field_of 0xffff channels }
