-- What the words of `create` say.
use Rattle.std.specs.Prelude.{ℕ, ◌^◌, ◌==◌, ◌&&◌, Bool, List, Option, Some, None, codes, cond, nat_le, option_and_then, option_map}
use Rattle.std.specs.List.{list_any, range_with_len}
use Rattle.std.specs.Option.{option_map_or}
use Rattle.clap.specs.Words.{Row, Text, first_of}
use Rattle.block_id.specs.declared.sizes.TheConstants.{MIN_BLOCK, MAX_BLOCK}
use Rattle.scrypt_kdf.specs.Cost.{Cost}
use Rattle.script_text.specs.Numbers.{number_of}
use Rattle.program_words.specs.CreateCommand.{are_options, values_in}
use Rattle.program_words.specs.declared.create_options.CreateOptions.{CreateOptions}

-- the number that an option's value is, or `absent` where the option isn't there
unfoldable pub number_at : Text → ℕ → List Row → Option ℕ
number_at name absent values = option_map_or number_of (first_of name values) (Some absent)

-- the same number, from `least` to `most`
unfoldable pub number_within : Text → ℕ → ℕ → ℕ → List Row → Option ℕ
number_within name absent least most values =
    option_and_then (λ n. cond (nat_le least n && nat_le n most) (Some n) None) (number_at name absent values)

-- 2, 4, 8 and so on, up to 2 ^ 20
unfoldable pub is_power : ℕ → Bool
is_power n = list_any (λ k. n == 2 ^ k) (range_with_len 1 20)

unfoldable pub cost_at : List Row → Option Cost
cost_at values =
    option_and_then (λ n. option_and_then (λ r. option_and_then (λ p.
    cond (is_power n) (Some (record { n = n; r = r; p = p })) None)
    (number_within (codes "scrypt-p") 1 1 16 values))
    (number_within (codes "scrypt-r") 8 1 8 values))
    (number_at (codes "scrypt-n") 32768 values)

unfoldable pub options_at : List Row → Option CreateOptions
options_at values =
    option_and_then (λ size. option_map (λ cost. record { block_size = size; params = cost }) (cost_at values))
    (number_within (codes "blocksize") 16384 MIN_BLOCK MAX_BLOCK values)

-- the options that the words say, or None where they aren't options of `create`
unfoldable pub options_of : List Text → Option CreateOptions
options_of words = cond (are_options words) (options_at (values_in words)) None
