mod Slots
mod Looking
