mod Gathering
mod Noted
mod Sending
mod Told
