-- The laws of reading. A program's proof cites Laws; Reading has what is known of the bytes.
pub mod Laws
mod Reading
