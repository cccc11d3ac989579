use Rattle.std.proofs.Common.{◌≡◌, true, take}
use Rattle.std.specs.Char.{is_digit}
use Rattle.std.specs.List.{list_all}
use Rattle.std.specs.Str.Parse.{digits_value}
use Rattle.zio_script.proofs.word.short_digits_value.Given as goal

abbrev pub invariant-loop-c : goal.invariant-loop-c
invariant-loop-c l = record {
  digits : list_all (λ c. is_digit c 10) (take l.c-index l.word) ≡ true;
  value : l.value ≡ digits_value 10 (take l.c-index l.word);
}
