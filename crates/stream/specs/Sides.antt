-- What a source of one of two types means.
use Rattle.stream.specs.declared.either.Either.{Either}
use Rattle.stream.specs.declared.either.Either.TheVariants.{Left, Right}
use Rattle.stream.specs.Streams.{Stream}

abbrev pub side : {X Y : Type 0} → (X → Stream) → (Y → Stream) → Either X Y → Stream
side f g (Left x) = f x
side f g (Right y) = g y
