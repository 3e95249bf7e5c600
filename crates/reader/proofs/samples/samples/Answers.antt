use Rattle.std.proofs.Common.{refl}
use Rattle.text.specs.Nextstep.{nextstep}
use Rattle.text.specs.Numbers.{number}
use Rattle.text.specs.Utf8.{utf8, encode}
use Rattle.reader.specs.Readings.{reading_within, reading}
use Rattle.reader.specs.Texts.{quoted_within, quoted_from}
use Rattle.reader.proofs.samples.samples.Goals as goal

pub returns : goal.returns
unfolding reading_within reading quoted_within quoted_from nextstep number utf8 encode
returns c = record {
  slash_token = refl;
  slash = refl;
  comment = refl;
  half_comment = refl;
  open_comment = refl;
  octal_nextstep = refl;
  octal_high = refl;
  octal_short = refl;
  unit_plus = refl;
  unit_pair = refl;
  unit_swapped = refl;
  hexadecimal = refl;
  hexadecimal_twice = refl;
  too_low = refl;
  dictionary = refl;
  array = refl;
  quoted_digits = refl;
  quoted_quote = refl;
  line_feed = refl;
  line_comment = refl;
  unclosed = refl;
  unknown_escape = refl;
  not_utf8 = refl;
  lone_unit = refl;
  longest = refl;
  too_long = refl;
  torn = refl;
}
