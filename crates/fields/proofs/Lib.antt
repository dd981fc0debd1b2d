-- The laws of fields. The layers above cite Laws.
pub mod Laws
mod Ands
mod Classes
mod Parts
mod Splitting
mod Bytes
mod Names
mod Options
mod Cuts
mod Numbers
mod Decimals
mod Places
mod Known
mod Onward
mod ValueLines
mod NameLines
mod Tops
mod Fronts
mod Puts
mod WrittenLines
mod WrittenTuples
