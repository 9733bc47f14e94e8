-- How many digests a server has with `ketama`: weight / total * 40 * servers in floats of 32 bits,
-- where the quotient and both products are rounded to 24 binary digits.
use Rattle.std.specs.Prelude.{ℕ, ◌+◌, ◌-◌, ◌*◌, ◌/◌, ◌%◌, ◌^◌, ◌==◌, nat_lt, ◌&&◌, ◌||◌, if◌then◌else◌}
use Rattle.std.specs.Int.{w64, leading_zeros}

-- how many binary digits a number has; 0 has none
abbrev pub binary_digits : ℕ → ℕ
binary_digits x = 64 - leading_zeros w64 x

-- the whole number nearest to a quotient; the even one where two are as near
abbrev pub nearest : ℕ → ℕ → ℕ
nearest x y =
    if nat_lt y (2 * (x % y)) || ((2 * (x % y) == y) && (x / y % 2 == 1)) then x / y + 1 else x / y

-- a number, rounded to its 24 leading binary digits
unfoldable pub rounded : ℕ → ℕ
rounded x = let unit = 2 ^ (binary_digits x - 24) in nearest x unit * unit

-- the least power of two by which a weight comes to the total or above it
unfoldable pub scale_of : ℕ → ℕ → ℕ
scale_of weight total = 2 ^ binary_digits ((total - 1) / weight)

-- weight / total with 24 binary digits, as a count of parts of which 2 ^ 23 * scale make 1
abbrev pub weight_share : ℕ → ℕ → ℕ
weight_share weight total = nearest (weight * scale_of weight total * 2 ^ 23) total

-- the digests of a server of this weight, of as many servers with this total of weights
unfoldable pub digests_of : ℕ → ℕ → ℕ → ℕ
digests_of weight total servers =
    rounded (rounded (40 * weight_share weight total) * servers) / (scale_of weight total * 2 ^ 23)
