-- The coefficients of the Audio EQ Cookbook (Bristow-Johnson), in binary64 as biquad.rs orders them, each operation rounded once.
-- Definitions only.
use Rattle.pcm.specs.declared.Error.{Error}
use Rattle.std.specs.Prelude.{ℕ, Bool, true, false, cond, ◌&&◌, pos, Float, Ok, Err, Result}
use Rattle.std.specs.Float.{inf, binary32, binary64}
use Rattle.std.specs.Float.Ieee.{of_int, neg, lt, le}
use Rattle.pcm.specs.declared.Error.TheVariants.{InvalidFormat}
use Rattle.floats.specs.Floats.{narrowed}
use Rattle.floats.specs.Operations.{plus_zero, ◌+₆₄◌, ◌-₆₄◌, ◌*₆₄◌, ◌/₆₄◌}
use Rattle.pcm.specs.Formats.{rate_allowed}
use Rattle.pcm.specs.Refusals.{refusal, ask, number_of, if_accepted, Verdict}
use Rattle.cookbook.specs.declared.BiquadKind.{BiquadKind}
use Rattle.cookbook.specs.declared.BiquadKind.TheVariants.{LowPass, HighPass, Peak, Notch}
use Rattle.cookbook.specs.declared.Section.{Section}
use Rattle.cookbook.specs.declared.Coefficients.{Coefficients}
use Rattle.cookbook.specs.declared.DesignTold.{DesignTold}

abbrev pub zero : Float
zero = of_int binary64 (pos 0)

abbrev pub one : Float
one = of_int binary64 (pos 1)

abbrev pub two : Float
two = of_int binary64 (pos 2)

-- the filter kind carries its own f0 and q
abbrev pub frequency : BiquadKind → Float
frequency (LowPass f0 q) = f0
frequency (HighPass f0 q) = f0
frequency (Peak f0 q db) = f0
frequency (Notch f0 q) = f0

abbrev pub quality : BiquadKind → Float
quality (LowPass f0 q) = q
quality (HighPass f0 q) = q
quality (Peak f0 q db) = q
quality (Notch f0 q) = q

-- f0 above 0 and below rate / 2, q above 0, the cosine from -1 to 1, the sine from 0 to 1.
-- A NaN is neither below nor above anything, nor equal to it
unfoldable pub frequency_allowed : Float → ℕ → Bool
frequency_allowed f0 rate = lt zero f0 && lt f0 (of_int binary64 (pos rate) /₆₄ two)

unfoldable pub quality_allowed : Float → Bool
quality_allowed q = lt zero q

unfoldable pub cosine_allowed : Float → Bool
cosine_allowed cosine = le (neg one) cosine && le cosine one

unfoldable pub sine_allowed : Float → Bool
sine_allowed sine = le zero sine && le sine one

-- the settings that every kind has
unfoldable pub design_settings_allowed : Float → Float → ℕ → Float → Float → Bool
design_settings_allowed f0 q rate sine cosine = rate_allowed rate && (frequency_allowed f0 rate && (quality_allowed q && (cosine_allowed cosine && sine_allowed sine)))

-- for Peak a finite and above 0
unfoldable pub peak_factor_allowed : Float → Bool
peak_factor_allowed a = lt zero a && lt a (inf false)

abbrev pub gain_allowed : BiquadKind → Float → Bool
gain_allowed (LowPass f0 q) a = true
gain_allowed (HighPass f0 q) a = true
gain_allowed (Peak f0 q db) a = peak_factor_allowed a
gain_allowed (Notch f0 q) a = true

unfoldable pub design_allowed : BiquadKind → ℕ → Float → Float → Float → Bool
design_allowed kind rate sine cosine a = design_settings_allowed (frequency kind) (quality kind) rate sine cosine && gain_allowed kind a

-- sin(w0) / (2 * Q)
unfoldable pub alpha_of : Float → Float → Float
alpha_of sine q = sine /₆₄ (two *₆₄ q)

-- the cookbook's LPF, HPF, peakingEQ and notch: c is cos(w0), α is sin(w0) / (2 * Q), A is 10^(dBgain / 40)
unfoldable pub cookbook : BiquadKind → Float → Float → Float → Section
cookbook (LowPass f0 q) c α A = record {
  b0 = (one -₆₄ c) /₆₄ two;
  b1 = one -₆₄ c;
  b2 = (one -₆₄ c) /₆₄ two;
  a0 = one +₆₄ α;
  a1 = neg two *₆₄ c;
  a2 = one -₆₄ α;
}
cookbook (HighPass f0 q) c α A = record {
  b0 = (one +₆₄ c) /₆₄ two;
  b1 = neg (one +₆₄ c);
  b2 = (one +₆₄ c) /₆₄ two;
  a0 = one +₆₄ α;
  a1 = neg two *₆₄ c;
  a2 = one -₆₄ α;
}
cookbook (Peak f0 q db) c α A = record {
  b0 = one +₆₄ α *₆₄ A;
  b1 = neg two *₆₄ c;
  b2 = one -₆₄ α *₆₄ A;
  a0 = one +₆₄ α /₆₄ A;
  a1 = neg two *₆₄ c;
  a2 = one -₆₄ α /₆₄ A;
}
cookbook (Notch f0 q) c α A = record {
  b0 = one;
  b1 = neg two *₆₄ c;
  b2 = one;
  a0 = one +₆₄ α;
  a1 = neg two *₆₄ c;
  a2 = one -₆₄ α;
}

-- each divided by a0 and narrowed to binary32
abbrev pub normalised : Section → Coefficients
normalised s =
    record {
      b0 = narrowed (s.b0 /₆₄ s.a0);
      b1 = narrowed (s.b1 /₆₄ s.a0);
      b2 = narrowed (s.b2 /₆₄ s.a0);
      a1 = narrowed (s.a1 /₆₄ s.a0);
      a2 = narrowed (s.a2 /₆₄ s.a0);
    }

-- the coefficients of a kind, from the sine and the cosine of w0 and Peak's a
unfoldable pub coefficients_of : BiquadKind → Float → Float → Float → Coefficients
coefficients_of kind sine cosine a = normalised (cookbook kind cosine (alpha_of sine (quality kind)) a)

-- are the settings within their limits? else 1
unfoldable pub design_verdict : BiquadKind → ℕ → Float → Float → Float → Verdict
design_verdict kind rate sine cosine a = ask (design_allowed kind rate sine cosine a) InvalidFormat (Ok tt)

unfoldable pub design_answer : BiquadKind → ℕ → Float → Float → Float → Result Coefficients Error
design_answer kind rate sine cosine a = cond (design_allowed kind rate sine cosine a) (Ok (coefficients_of kind sine cosine a)) (Err InvalidFormat)

abbrev pub all_zero : Coefficients
all_zero = record { b0 = plus_zero; b1 = plus_zero; b2 = plus_zero; a1 = plus_zero; a2 = plus_zero }

-- the number and the coefficients that each answer tells: 0 and the coefficients, or the refusal's number and five times 0
abbrev pub design_told : (Result Coefficients Error) → DesignTold
design_told (Ok k) = record { number = 0; coefficients = k }
design_told (Err e) = record { number = (refusal e).number; coefficients = all_zero }

-- the same by the questions
abbrev pub design_valued : Verdict → Coefficients → DesignTold
design_valued v k = record { number = number_of v; coefficients = if_accepted v k all_zero }

-- the flat filter is 1, 0, 0, 0, 0
abbrev pub identity : Coefficients
identity = record { b0 = of_int binary32 (pos 1); b1 = plus_zero; b2 = plus_zero; a1 = plus_zero; a2 = plus_zero }

-- the section with this numerator and the denominator that the kinds share
abbrev pub with_numerator : Float → Float → Float → Float → Float → Section
with_numerator b0 b1 b2 c α = record { b0 = b0; b1 = b1; b2 = b2; a0 = one +₆₄ α; a1 = neg two *₆₄ c; a2 = one -₆₄ α }
